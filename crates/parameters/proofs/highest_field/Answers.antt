-- `parameters::highest_field` meets its contract: code and definition are one composition. Assumes nothing.
use Rattle.parameters.specs.Parameters.{highest_field}
use Rattle.parameters.proofs.highest_field.Goals as goal

pub returns : goal.returns
unfolding highest_field
returns c =
    simp (
      c.judged.ensures,
      c.highest_right.ensures,
      c.signed_field-taken.ensures,
    )
