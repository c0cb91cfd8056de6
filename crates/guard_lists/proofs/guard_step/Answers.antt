-- `guard_step` meets its contract: the test on the way picks the definition's case. Assumes nothing.
use borrow.Author.Tests.{lt-ltb, le-ltb}
use Rattle.guards.specs.Guards.{guard_step}
use Rattle.guard_lists.proofs.guard_step.Goals as goal

pub returns-then-i-list : goal.returns-then-i-list
unfolding guard_step
returns-then-i-list c = simp (lt-ltb _ _ c.if-i-list.true, c.guard_at-read.ensures)

pub returns-else-i-list : goal.returns-else-i-list
unfolding guard_step
returns-else-i-list c = simp (le-ltb _ _ c.if-i-list.false)
