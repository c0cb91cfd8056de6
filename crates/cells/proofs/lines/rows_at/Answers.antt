-- The numbers of the place, from its start on.
use native.Mathlib.Omega.{arith}
use Prim.Native.Nat.{◌*◌}
use Rattle.cells.specs.CellLaws.{copied_part, rows_copied}
use Rattle.cells.proofs.lines.rows_at.Goals as goal

pub returns : goal.returns
returns c =
    let a = c.args in
    rows_copied a.cells.now _ a.marks.now a.p a.n c.requires.1.0 c.requires.1.1
    (copied_part a.cells.now c.copy_from_slice.new.self _ (250 * a.p) (5 * a.n) _ c.copy_from_slice.ensures.after (omega arith)
    (omega arith))
