-- `cursor::within` meets its contract: the test on the way picks the definition's case. Assumes nothing.
use borrow.Author.Tests.{le-leb, lt-leb}
use Rattle.cursor.proofs.within.Goals as goal

pub returns-then-low-value : goal.returns-then-low-value
returns-then-low-value c = simp (le-leb _ _ c.if-low-value.true)

pub returns-else-low-value : goal.returns-else-low-value
returns-else-low-value c = simp (lt-leb _ _ c.if-low-value.false)
