-- The mark, then the row.
use mathlib.Core.Path.{◌≡◌, ap, ◌∙◌}
use mathlib.Core.List.{List}
use lib.IntN.{ℤ}
use lib.ListN.{length, set}
use Prim.Native.Nat.{◌+◌, ◌*◌}
use Rattle.cells.specs.Cells.{cells_in}
use Rattle.cells.specs.CellLaws.{written_bound}
use borrow.Author.Rules.{rules}
use Rattle.cells.proofs.entries.put_bound.Goals as goal

pub returns : goal.returns
returns c =
    let a = c.args in
    let four : length a.b.expr.coefs ≡ 4 = search rules in
    ap (λ (l : List ℤ). cells_in l (set a.marks.now (25 * a.p + a.k) c.mark_of-mark.result)) c.put.ensures
    ∙ written_bound a.cells.now a.marks.now a.p a.k a.b c.mark_of-mark.result c.requires.1.1.0
    c.requires.1.1.1 c.requires.0 c.requires.1.0 four c.mark_of-mark.ensures
