-- `link_step` meets its contract: the tests on the way pick the definition's case. Assumes nothing.
use borrow.Author.Tests.{lt-ltb, eq-eqb, ne_eqb}
use Rattle.route.specs.Route.{link_step}
use Rattle.links.proofs.link_step.Goals as goal

pub returns-then-ends-location : goal.returns-then-ends-location
unfolding link_step
returns-then-ends-location c =
    let h = rw c.ends_at-ends.ensures at c.if-ends-location.true in
    simp (lt-ltb _ _ c.requires.1, c.ends_at-ends.ensures, eq-eqb _ _ h)

pub returns-else-ends-location : goal.returns-else-ends-location
unfolding link_step
returns-else-ends-location c =
    let h = rw c.ends_at-ends.ensures at c.if-ends-location.false in
    simp (lt-ltb _ _ c.requires.1, ne_eqb _ _ h)
