-- The test, then the entry.
use Rattle.cells.specs.Cells.{cells_in}
use Rattle.cells.specs.CellLaws.{cells_long}
use Rattle.parting.specs.HalfLaws.{yes_cells, early_cells}
use Rattle.parting.proofs.halves.yes_at.Goals as goal

pub returns-then-t-gt1 : goal.returns-then-t-gt1
returns-then-t-gt1 c =
    let a = c.args in
    yes_cells (cells_in a.cells.now a.marks.now) _ a.p a.old a.n a.g a.t (cells_long a.cells.now a.marks.now)
    c.requires.1.1.0.0 c.requires.1.1.1.0 c.put_row.ensures c.if-t-gt1.true _ _
    c.via_at-via.ensures c.put_bound.ensures

pub returns-else-t-gt1 : goal.returns-else-t-gt1
returns-else-t-gt1 c =
    let a = c.args in
    early_cells (cells_in a.cells.now a.marks.now) _ a.p a.old a.n a.g a.t (cells_long a.cells.now a.marks.now)
    c.requires.1.1.0.0 c.requires.1.1.1.0 c.put_row.ensures c.if-t-gt1.false
