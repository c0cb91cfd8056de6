-- `judged_bodies` meets its contract: the test on the way picks the definition's case. Assumes nothing.
use Rattle.reading.specs.File.{judged_bodies, refused_by}
use Rattle.reading.proofs.judged_bodies.Goals as goal

pub returns-then-cursor : goal.returns-then-cursor
unfolding judged_bodies refused_by
returns-then-cursor c = simp c.if-cursor.true c.judged_widths.ensures

pub returns-else-cursor : goal.returns-else-cursor
unfolding judged_bodies refused_by
returns-else-cursor c = simp c.if-cursor.false
