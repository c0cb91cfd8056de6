-- The branches are the cases of a row.
use Rattle.weight.specs.declared.Weight.{Weight}
use Rattle.weight_matrix.specs.Tables.{limited_row}
use borrow.Author.Tests.{lt-ltb, le-ltb}
use mathlib.Core.Path.{refl, ◌∙◌, ap}
use Rattle.weight_guard.proofs.limited_line.Goals as goal

pub returns-then-clocks-k : goal.returns-then-clocks-k
returns-then-clocks-k c = rw (lt-ltb _ _ c.if-clocks-k.true) refl

pub returns : goal.returns
returns c =
    let a = c.args in
    rw (le-ltb _ _ c.if-clocks-k.false)
    (c.limited_row.ensures ∙ ap (λ (s : Weight). limited_row a.clocks a.old s a.add) c.sum.ensures)
