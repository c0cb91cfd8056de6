-- `last_word` meets its contract: the test on the way picks the definition's case. Assumes nothing.
use borrow.Author.Tests.{lt-ltb, le-ltb}
use Rattle.guard_bytes.proofs.last_word.Goals as goal

pub returns-then-parameters-most : goal.returns-then-parameters-most
returns-then-parameters-most c = simp (lt-ltb _ _ c.if-parameters-most.true)

pub returns-else-parameters-most : goal.returns-else-parameters-most
returns-else-parameters-most c = simp (le-ltb _ _ c.if-parameters-most.false)
