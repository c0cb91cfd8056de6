-- One clock after another.
use mathlib.Core.List.{List}
use Rattle.cells.specs.Cells.{cells_in}
use Rattle.cells.specs.CellLaws.{cells_long}
use Rattle.expr.specs.declared.bound.Bound.{Bound}
use Rattle.delay.specs.Delayed.{reset_pair, reset_b}
use Rattle.delay.specs.InPlace.{on_twice}
use Rattle.delay.proofs.matrix.reset.Goals as goal

pub returns : goal.returns
unfolding reset_b
returns c =
    let a = c.args in
    let cs = cells_in a.cells.now a.marks.now in
    let full = cells_long a.cells.now a.marks.now in
    let h = c.requires.1.1.0 in
    let f = reset_pair a.clocks a.r in
    on_twice cs a.p full h (λ (m : List Bound). f 3 (f 2 (f 1 (f 0 m)))) (f 4) _ _
    (on_twice cs a.p full h (λ (m : List Bound). f 2 (f 1 (f 0 m))) (f 3) _ _
    (on_twice cs a.p full h (λ (m : List Bound). f 1 (f 0 m)) (f 2) _ _
    (on_twice cs a.p full h (f 0) (f 1) _ _ c.reset_pair.ensures c.reset_pair-2.ensures)
    c.reset_pair-3.ensures) c.reset_pair-4.ensures) c.reset_pair-5.ensures
