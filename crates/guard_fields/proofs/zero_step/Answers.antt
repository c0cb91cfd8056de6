-- `zero_step` meets its contract: the tests on the way pick the definition's case. Assumes nothing.
use borrow.Author.Tests.{le-leb, lt-leb, lt-ltb, le-ltb}
use Rattle.guards.specs.Guards.{zero_step}
use Rattle.guard_fields.proofs.zero_step.Goals as goal

pub returns-then-i-most : goal.returns-then-i-most
unfolding zero_step
returns-then-i-most c = simp (le-leb _ _ c.if-parameters-i.true, lt-ltb _ _ c.if-i-most.true, c.signed_field.ensures)

pub returns-else-i-most : goal.returns-else-i-most
unfolding zero_step
returns-else-i-most c = simp (le-leb _ _ c.if-parameters-i.true, le-ltb _ _ c.if-i-most.false)

pub returns-else-parameters-i : goal.returns-else-parameters-i
unfolding zero_step
returns-else-parameters-i c = simp (lt-leb _ _ c.if-parameters-i.false)
