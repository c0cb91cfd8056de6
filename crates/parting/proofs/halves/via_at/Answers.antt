-- Two sums of the entries that are read.
use Rattle.cells.specs.Cells.{cells_in}
use Rattle.cells.specs.CellLaws.{matrix_long}
use Rattle.running.specs.Tasks.{rule_at}
use Rattle.parting.specs.HalfLaws.{via_of_lem}
use Rattle.parting.proofs.halves.via_at.Goals as goal

pub returns : goal.returns
returns c =
    let a = c.args in
    via_of_lem (rule_at (cells_in a.cells.now a.marks.now) a.old a.g) (matrix_long a.cells.now a.marks.now a.old c.requires.1.0) a.x
    c.places-at.result _ _ c.sum.result c.sum-2.result c.places-at.ensures
    c.bound_at-first.ensures c.bound_at-last.ensures c.sum.ensures c.sum-2.ensures
