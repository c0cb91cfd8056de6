-- The stay, the guards, the resets, and the invariants of the arrival.
use mathlib.Core.Path.{◌≡◌}
use borrow.Author.Rules.{rules}
use lib.ListN.{length}
use Rattle.segments.specs.Lists.{move_lists}
use Rattle.segments.proofs.segment.move_steps.Goals as goal

pub returns : goal.returns
returns c =
    let start = c.before.before.before.before.before.before in
    let a = start.args in
    let six : length a.t.guards ≡ 6 = search rules in
    let six' : length a.there.guards ≡ 6 = search rules in
    move_lists a.here a.visit a.t a.there six six' _ _ _ _ c.stay_steps.ensures
    c.with_guards-limited.ensures c.with_step-made.ensures c.with_guards.ensures
