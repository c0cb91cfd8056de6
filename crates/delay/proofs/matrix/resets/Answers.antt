-- One clock after another.
use mathlib.Core.List.{List}
use Prim.Native.Nat.{◌/◌, ◌%◌}
use Rattle.cells.specs.Cells.{cells_in}
use Rattle.cells.specs.CellLaws.{cells_long}
use Rattle.expr.specs.declared.bound.Bound.{Bound}
use Rattle.delay.specs.Delayed.{reset_if_b, resets_b}
use Rattle.delay.specs.InPlace.{on_twice}
use Rattle.delay.proofs.matrix.resets.Goals as goal

pub returns : goal.returns
unfolding resets_b
returns c =
    let a = c.args in
    let cs = cells_in a.cells.now a.marks.now in
    let full = cells_long a.cells.now a.marks.now in
    let h = c.requires.1.1 in
    let f1 = reset_if_b a.clocks 1 (a.bits % 2) in
    let f2 = reset_if_b a.clocks 2 (a.bits / 2 % 2) in
    let f3 = reset_if_b a.clocks 3 (a.bits / 4 % 2) in
    let f4 = reset_if_b a.clocks 4 (a.bits / 8 % 2) in
    on_twice cs a.p full h (λ (m : List Bound). f3 (f2 (f1 m))) f4 _ _
    (on_twice cs a.p full h (λ (m : List Bound). f2 (f1 m)) f3 _ _
    (on_twice cs a.p full h f1 f2 _ _ c.reset_if.ensures c.reset_if-2.ensures) c.reset_if-3.ensures)
    c.reset_if-4.ensures
