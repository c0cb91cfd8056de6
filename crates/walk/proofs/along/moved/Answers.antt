-- The guards, the resets, then the invariants on arrival, as in `move_table`.
use Rattle.expr.specs.Records.{point}
use Rattle.weight_matrix.specs.Tables.{Table, resets_table}
use Rattle.walk.specs.Walked.{invariants_table, move_table}
use mathlib.Core.Path.{ap, ◌∙◌}
use Rattle.walk.proofs.along.moved.Goals as goal

pub returns : goal.returns
unfolding move_table
returns c =
    let at-resets = c.before.before in
    let a = at-resets.args in
    c.guards_of.ensures ∙ ap (λ (m : Table). invariants_table m a.clocks (point a.v) a.there)
    (at-resets.resets-reset.ensures ∙ ap (λ (m : Table). resets_table m a.clocks a.t.resets) at-resets.guards_of-limited.ensures)
