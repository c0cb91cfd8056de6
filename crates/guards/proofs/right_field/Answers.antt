-- `guards::right_field` meets its contract: code and definition are one composition. Assumes nothing.
use Rattle.guards.specs.Guards.{right_field}
use Rattle.guards.proofs.right_field.Goals as goal

pub returns : goal.returns
unfolding right_field
returns c = simp (c.judged.ensures, c.one_zero.ensures, c.byte_field-taken.ensures)
