-- `judged_route` meets its contract: where the route ends picks the definition's case. Assumes nothing.
use mathlib.Core.Path.{sym}
use Rattle.reading.specs.File.{judged_route, refused_by}
use Rattle.reading.proofs.judged_route.Goals as goal

pub returns-in-Ok : goal.returns-in-Ok
unfolding judged_route refused_by
returns-in-Ok c = simp (sym c.in-Ok.ensures)

pub returns-in-Err : goal.returns-in-Err
unfolding judged_route refused_by
returns-in-Err c = simp (sym c.in-Err.ensures)
