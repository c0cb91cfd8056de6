-- The mark and the row of the entry.
use mathlib.Core.Path.{◌≡◌, refl, ◌∙◌}
use lib.ListN.{length, get_or}
use Rattle.cells.specs.Cells.{cells_in, no_cell}
use Rattle.cells.specs.CellLaws.{read_inside, read_outside, bound_is}
use borrow.Author.Rules.{rules}
use Rattle.cells.proofs.entries.bound_at.Goals as goal

pub returns-then-k-lt25 : goal.returns-then-k-lt25
returns-then-k-lt25 c =
    let a = c.args in
    let four : length c.inequality.result.coefs ≡ 4 = search rules in
    bound_is a.cells.now a.marks.now a.p a.k c.inequality.result _ four c.inequality.ensures refl
    ∙ read_inside a.cells.now a.marks.now a.p a.k c.requires.1 c.if-k-lt25.true

pub returns : goal.returns
returns c =
    let a = c.args in
    read_outside (get_or (cells_in a.cells.now a.marks.now) a.p no_cell).bounds a.k c.if-k-lt25.false
