-- One clock after another.
use mathlib.Core.List.{List}
use lib.Dec.{ltb}
use Rattle.cells.specs.Cells.{cells_in}
use Rattle.cells.specs.CellLaws.{cells_long}
use Rattle.expr.specs.declared.bound.Bound.{Bound}
use Rattle.delay.specs.Delayed.{none_if, delayed_b}
use Rattle.delay.specs.InPlace.{on_twice}
use Rattle.delay.proofs.matrix.delayed.Goals as goal

pub returns : goal.returns
unfolding delayed_b
returns c =
    let a = c.args in
    let cs = cells_in a.cells.now a.marks.now in
    let full = cells_long a.cells.now a.marks.now in
    let h = c.requires.1.1 in
    let f1 = none_if (ltb 0 a.clocks) 5 in
    let f2 = none_if (ltb 1 a.clocks) 10 in
    let f3 = none_if (ltb 2 a.clocks) 15 in
    let f4 = none_if (ltb 3 a.clocks) 20 in
    on_twice cs a.p full h (λ (m : List Bound). f3 (f2 (f1 m))) f4 _ _
    (on_twice cs a.p full h (λ (m : List Bound). f2 (f1 m)) f3 _ _
    (on_twice cs a.p full h f1 f2 _ _ c.none_if.ensures c.none_if-2.ensures) c.none_if-3.ensures)
    c.none_if-4.ensures
