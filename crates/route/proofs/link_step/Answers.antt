-- `route::link_step` meets its contract: the tests on the way pick the definition's case. Assumes nothing.
use borrow.Author.Tests.{lt-ltb, le-ltb, eq-eqb, ne_eqb}
use Rattle.route.specs.Route.{link_step}
use Rattle.route.proofs.link_step.Goals as goal

pub returns-then-ends-location : goal.returns-then-ends-location
unfolding link_step
returns-then-ends-location c =
    let e = c.ends_at-ends.ensures in
    let h = rw e at c.if-ends-location.true in
    simp (lt-ltb _ _ c.if-k-moves.true, e, eq-eqb _ _ h)

pub returns-else-ends-location : goal.returns-else-ends-location
unfolding link_step
returns-else-ends-location c =
    let e = c.ends_at-ends.ensures in
    let h = rw e at c.if-ends-location.false in
    simp (lt-ltb _ _ c.if-k-moves.true, ne_eqb _ _ h)

pub returns-else-k-moves : goal.returns-else-k-moves
unfolding link_step
returns-else-k-moves c = simp (le-ltb _ _ c.if-k-moves.false)
