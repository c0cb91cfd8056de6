-- A wait, then the invariants, as in `stay_table`.
use Rattle.expr.specs.Records.{point}
use Rattle.weight_matrix.specs.Tables.{Table}
use Rattle.walk.specs.Walked.{invariants_table, stay_table}
use mathlib.Core.Path.{ap, ◌∙◌}
use Rattle.walk.proofs.along.stay.Goals as goal

pub returns : goal.returns
unfolding stay_table
returns c =
    let a = c.args in
    c.guards_of.ensures ∙ ap (λ (m : Table). invariants_table m a.clocks (point a.v) a.here) c.delayed.ensures
