-- The row of the inequality.
use mathlib.Core.Path.{◌≡◌, ap, ◌∙◌}
use mathlib.Core.List.{List}
use lib.IntN.{ℤ}
use lib.ListN.{length}
use Rattle.cells.specs.Cells.{cells_in}
use Rattle.cells.specs.CellLaws.{written_ineq}
use borrow.Author.Rules.{rules}
use Rattle.cells.proofs.lines.put_row.Goals as goal

pub returns : goal.returns
returns c =
    let a = c.args in
    let four : length a.e.coefs ≡ 4 = search rules in
    ap (λ (l : List ℤ). cells_in l a.marks.now) c.put.ensures
    ∙ written_ineq a.cells.now a.marks.now a.p a.k a.e c.requires.1.0 c.requires.1.1 c.requires.0 four
