-- The cases of the bit and of the clocks.
use mathlib.Core.Path.{ap, ◌∙◌}
use lib.ListN.{get_or}
use Rattle.cells.specs.Cells.{no_cell, cells_in, on_matrix}
use Rattle.cells.specs.CellLaws.{cells_long}
use Rattle.delay.specs.Delayed.{reset_if_b}
use Rattle.delay.specs.InPlace.{on_same, if_there, if_past, if_not}
use Rattle.delay.proofs.matrix.reset_if.Goals as goal

pub returns-then-r-clocks : goal.returns-then-r-clocks
returns-then-r-clocks c =
    let a = c.args in
    let cs = cells_in a.cells.now a.marks.now in
    let full = cells_long a.cells.now a.marks.now in
    c.reset.ensures ∙ ap (on_matrix cs a.p) (if_there a.clocks a.r a.bit c.if-bit-eq1.true c.if-r-clocks.true)

pub returns-else-r-clocks : goal.returns-else-r-clocks
returns-else-r-clocks c =
    let a = c.args in
    let cs = cells_in a.cells.now a.marks.now in
    let full = cells_long a.cells.now a.marks.now in
    on_same cs a.p (reset_if_b a.clocks a.r a.bit) (if_past a.clocks a.r a.bit (get_or cs a.p no_cell).bounds
    c.if-bit-eq1.true c.if-r-clocks.false)

pub returns-else-bit-eq1 : goal.returns-else-bit-eq1
returns-else-bit-eq1 c =
    let a = c.args in
    let cs = cells_in a.cells.now a.marks.now in
    let full = cells_long a.cells.now a.marks.now in
    on_same cs a.p (reset_if_b a.clocks a.r a.bit) (if_not a.clocks a.r a.bit (get_or cs a.p no_cell).bounds
    c.if-bit-eq1.false)
