-- `cursor::finished` meets its contract: the tests on the way pick the definition's case. Assumes nothing.
use borrow.Author.Tests.{lt-ltb, le-ltb}
use Rattle.cursor.specs.Cursor.{finished}
use Rattle.cursor.proofs.finished.Goals as goal

pub returns-then-at-end : goal.returns-then-at-end
unfolding finished
returns-then-at-end c = simp (c.if-cursor.true, lt-ltb _ _ c.if-at-end.true) c.stop.ensures

pub returns-else-at-end : goal.returns-else-at-end
unfolding finished
returns-else-at-end c = simp (c.if-cursor.true, le-ltb _ _ c.if-at-end.false)

pub returns-else-cursor : goal.returns-else-cursor
unfolding finished
returns-else-cursor c = simp c.if-cursor.false
