-- The two entries, for another clock that there is.
use mathlib.Core.Path.{ap, ◌∙◌}
use Prim.Native.Nat.{◌+◌, ◌*◌}
use lib.ListN.{get_or}
use Rattle.cells.specs.Cells.{no_cell, cells_in, on_matrix}
use Rattle.cells.specs.CellLaws.{cells_long}
use Rattle.delay.specs.Delayed.{move_b, reset_pair}
use Rattle.delay.specs.InPlace.{on_same, on_twice, pair_there, pair_same, pair_past}
use Rattle.delay.proofs.pairs.reset_pair.Goals as goal

pub returns-then-j-r : goal.returns-then-j-r
returns-then-j-r c =
    let a = c.args in
    let cs = cells_in a.cells.now a.marks.now in
    let full = cells_long a.cells.now a.marks.now in
    on_same cs a.p (reset_pair a.clocks a.r a.j) (pair_same a.clocks a.r a.j (get_or cs a.p no_cell).bounds c.if-j-r.true)

pub returns-else-j-r : goal.returns-else-j-r
returns-else-j-r c =
    let a = c.args in
    let cs = cells_in a.cells.now a.marks.now in
    let full = cells_long a.cells.now a.marks.now in
    on_twice cs a.p full c.requires.1.1.0 (move_b a.j (5 * a.r + a.j)) (move_b (5 * a.j) (5 * a.j + a.r)) _ _
    c.moved.ensures c.moved-then-j-clocks.ensures
    ∙ ap (on_matrix cs a.p) (pair_there a.clocks a.r a.j c.if-j-clocks.true c.if-j-r.false)

pub returns-else-j-clocks : goal.returns-else-j-clocks
returns-else-j-clocks c =
    let a = c.args in
    let cs = cells_in a.cells.now a.marks.now in
    let full = cells_long a.cells.now a.marks.now in
    on_same cs a.p (reset_pair a.clocks a.r a.j) (pair_past a.clocks a.r a.j (get_or cs a.p no_cell).bounds c.if-j-clocks.false)
