-- `cursor::judged` meets its contract: the tests on the way pick the definition's case. Assumes nothing.
use Rattle.cursor.specs.Cursor.{judged}
use Rattle.cursor.proofs.judged.Goals as goal

pub returns-then-right : goal.returns-then-right
unfolding judged
returns-then-right c = simp (c.if-taken.true, c.if-right.true)

pub returns-else-right : goal.returns-else-right
unfolding judged
returns-else-right c = simp (c.if-taken.true, c.if-right.false) c.stop.ensures

pub returns-else-taken : goal.returns-else-taken
unfolding judged
returns-else-taken c = simp c.if-taken.false
