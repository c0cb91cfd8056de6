-- The branches are the cases of `delayed_table`.
use Rattle.weight_matrix.specs.Tables.{delayed_table}
use mathlib.Core.Path.{refl, sym, ◌∙◌}
use Rattle.weight_matrix.specs.Laws.{list5}
use Rattle.weight_delay.proofs.delayed.Goals as goal

pub returns-then-is_void : goal.returns-then-is_void
unfolding delayed_table
returns-then-is_void c = rw (sym c.is_void.ensures ∙ c.if-is_void.true) refl

pub returns : goal.returns
unfolding delayed_table
returns c =
    let at-delayed-row3 = c.before.before in
    let at-delayed-row2 = at-delayed-row3.before.before in
    let at-delayed-row = at-delayed-row2.before.before in
    let tested-1 = at-delayed-row.before.before.before in
    let at-is-void = tested-1.before in
    rw (sym at-is-void.is_void.ensures ∙ tested-1.if-is_void.false)
    (list5 refl at-delayed-row.delayed_row.ensures at-delayed-row2.delayed_row-2.ensures
    at-delayed-row3.delayed_row-3.ensures c.delayed_row-4.ensures)
