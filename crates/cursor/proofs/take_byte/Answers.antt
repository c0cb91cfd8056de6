-- `cursor::take_byte` meets its contract: the tests on the way pick the definition's case. Assumes nothing.
use borrow.Author.Tests.{lt-ltb, le-ltb}
use Rattle.cursor.specs.Cursor.{byte_taken}
use Rattle.cursor.proofs.take_byte.Goals as goal

pub returns-then-at-end : goal.returns-then-at-end
unfolding byte_taken
returns-then-at-end c = simp (c.byte_at.ensures, c.if-cursor.true, lt-ltb _ _ c.if-at-end.true)

pub returns-else-at-end : goal.returns-else-at-end
unfolding byte_taken
returns-else-at-end c = simp (c.stop.ensures, c.if-cursor.true, le-ltb _ _ c.if-at-end.false)

pub returns-else-cursor : goal.returns-else-cursor
unfolding byte_taken
returns-else-cursor c = simp c.if-cursor.false
