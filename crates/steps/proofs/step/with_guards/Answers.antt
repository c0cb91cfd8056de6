-- The guards are put in one after another; a full list stays as it is.
use mathlib.Core.Path.{◌≡◌, ap, ◌∙◌}
use native.Mathlib.Omega.{arith}
use borrow.Author.Rules.{rules}
use lib.ListN.{take}
use Rattle.steps.specs.Steps.{with_guards_c}
use Rattle.steps.proofs.Cases.{first_ones, guards_put, guards_full, guards_done}
use Rattle.steps.proofs.step.with_guards.Goals as goal

pub returns-then-at-ge20 : goal.returns-then-at-ge20
returns-then-at-ge20 c =
    let a = c.args in
    let first : take c.min-n.result a.guards ≡ take a.count a.guards = first_ones _ a.count 6 a.guards c.min-n.ensures (search rules) in
    guards_full _ c.loop-guard.more c.if-at-ge20.true ∙ c.loop-guard.invariant ∙ ap (with_guards_c a.steps) first

pub loop-guard-preserved : goal.loop-guard-preserved
loop-guard-preserved c =
    let loop = c.loop-guard in guards_put _ loop.guard-index loop.more _ c.loop-guard-test.true c.if-at-ge20.false loop.invariant

pub returns : goal.returns
returns c =
    let a = c.args in
    let first : take c.min-n.result a.guards ≡ take a.count a.guards = first_ones _ a.count 6 a.guards c.min-n.ensures (search rules) in
    guards_done _ c.loop-guard.guard-index c.loop-guard.more _ (omega arith) c.loop-guard.invariant ∙ ap (with_guards_c a.steps) first
