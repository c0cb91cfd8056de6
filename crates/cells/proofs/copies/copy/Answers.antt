-- The numbers, then the marks.
use native.Mathlib.Omega.{arith}
use Prim.Native.Nat.{◌*◌}
use lib.IntN.{pos}
use Rattle.cells.specs.CellLaws.{copied_cells}
use Rattle.cells.specs.Copies.{copied_within}
use Rattle.cells.proofs.copies.copy.Goals as goal

pub returns : goal.returns
returns c =
    let a = c.args in
    let numbers = c.copy_within.ensures in
    let marks = c.copy_within-2.ensures in
    copied_cells a.cells.now _ a.marks.now _ a.p a.q c.requires.1.1.0 c.requires.1.1.1
    (copied_within (pos 0) a.cells.now c.copy_within.new.self (250 * a.p) (250 * a.q) 250 _ numbers.len (omega arith)
    numbers.by_index.0 numbers.by_index.1 numbers.by_index.2)
    (copied_within 0 a.marks.now c.copy_within-2.new.self (25 * a.p) (25 * a.q) 25 _ marks.len (omega arith)
    marks.by_index.0 marks.by_index.1 marks.by_index.2)
