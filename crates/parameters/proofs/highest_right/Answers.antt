-- `parameters::highest_right` meets its contract: the test on the way picks the definition's case. Assumes nothing.
use borrow.Author.Tests.{le-leb, lt-leb}
use Rattle.parameters.specs.Parameters.{highest_right}
use Rattle.parameters.proofs.highest_right.Goals as goal

pub returns-then-low-high : goal.returns-then-low-high
unfolding highest_right
returns-then-low-high c = simp (le-leb _ _ c.if-low-high.true)

pub returns-else-low-high : goal.returns-else-low-high
unfolding highest_right
returns-else-low-high c = simp (lt-leb _ _ c.if-low-high.false)
