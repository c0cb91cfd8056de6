-- The zone at both places, then the no part and the yes part of it.
use Rattle.cells.specs.Cells.{cells_in}
use Rattle.cells.specs.CellLaws.{cells_long}
use Rattle.zones.specs.Settled.{opposite_c}
use Rattle.parting.specs.HalfLaws.{halves_cells}
use Rattle.parting.proofs.halves.halved.Goals as goal

pub returns : goal.returns
unfolding opposite_c
returns c =
    let a = c.args in
    let copied = c.copy.ensures in
    halves_cells (cells_in a.cells.now a.marks.now) _ _ _ a.p a.old a.n a.g a.t _ (cells_long a.cells.now
    a.marks.now) c.requires.1.1.0.0 c.requires.1.1.0.1 copied
    c.opposite.ensures c.put_row.ensures
    c.yes_at.ensures
