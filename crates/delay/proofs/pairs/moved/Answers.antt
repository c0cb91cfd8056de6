-- The entry is read, then written.
use mathlib.Core.Path.{ap, ◌∙◌}
use lib.ListN.{get_or}
use Rattle.cells.specs.Cells.{no_cell, cells_in, put_bound}
use Rattle.cells.specs.CellLaws.{cells_long, matrix_long}
use Rattle.expr.specs.declared.bound.Bound.{Bound}
use Rattle.delay.specs.InPlace.{read_zero}
use Rattle.delay.proofs.pairs.moved.Goals as goal

pub returns : goal.returns
returns c =
    let a = c.args in
    let cs = cells_in a.cells.now a.marks.now in
    let full = cells_long a.cells.now a.marks.now in
    let m = (get_or cs a.p no_cell).bounds in
    let long = matrix_long a.cells.now a.marks.now a.p c.requires.1.1.0 in
    c.put_bound.ensures
    ∙ ap (λ (b : Bound). put_bound cs a.p a.y b) (c.bound_at-b.ensures ∙ read_zero
    m a.x long c.requires.1.1.1.0)
