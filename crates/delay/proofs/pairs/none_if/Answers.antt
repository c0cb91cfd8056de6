-- Put in, or not.
use mathlib.Core.Path.{refl}
use mathlib.Core.Bool.{false}
use Rattle.cells.specs.Cells.{cells_in}
use Rattle.cells.specs.CellLaws.{cells_long}
use Rattle.delay.specs.Delayed.{none_if}
use Rattle.delay.specs.InPlace.{on_same}
use Rattle.delay.proofs.pairs.none_if.Goals as goal

pub returns-then-there : goal.returns-then-there
returns-then-there c =
    let a = c.args in
    let cs = cells_in a.cells.now a.marks.now in
    let full = cells_long a.cells.now a.marks.now in
    rw c.if-there.true c.put_bound.ensures

pub returns-else-there : goal.returns-else-there
returns-else-there c =
    let a = c.args in
    let cs = cells_in a.cells.now a.marks.now in
    let full = cells_long a.cells.now a.marks.now in
    rw c.if-there.false (on_same cs a.p (none_if false a.x) refl)
