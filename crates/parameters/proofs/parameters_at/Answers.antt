-- `parameters::parameters_at` meets its contract: the fields, then the body's end. Assumes nothing.
use Rattle.parameters.specs.Parameters.{parameters_at}
use Rattle.parameters.proofs.parameters_at.Goals as goal

pub returns : goal.returns
unfolding parameters_at
returns c = simp (c.finished-all.ensures, c.parameters_read-all.ensures)
