-- `guards_from` meets its contract. The invariant: after i guards, all right, reading stands where `iterate` says. Assumes nothing.
use native.Mathlib.Omega.{arith}
use borrow.Author.Tests.{not-false}
use Rattle.guards.specs.Guards.{blank_guard, blank_guards}
use Rattle.guard_lists.specs.Listed.{guards_begun, guards_more, guards_done}
use Rattle.guard_lists.proofs.guards_from.Goals as goal

pub loop-i-init : goal.loop-i-init
unfolding blank_guards blank_guard
loop-i-init c = guards_begun _ _ _ _ _ _ (not-false _ c.if-not-count.false)

pub loop-i-preserved : goal.loop-i-preserved
loop-i-preserved c =
    rw c.from-in-loop-i.ensures
    (guards_more _ _ _ _ _ _ _ _ _ _ _ _ _ (omega arith) c.loop-i.invariant c.in-Some.ensures)

pub returns : goal.returns
returns c =
    let i = c.loop-i in
    guards_done _ _ _ _ _ _ i.i _ _ _ _ _ (rw c.from.ensures at c.min-n.ensures) (omega arith) (λ h. omega arith) i.invariant
