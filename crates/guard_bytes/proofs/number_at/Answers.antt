-- `number_at` meets its contract: code and definition are one composition. Assumes nothing.
use Rattle.guard_bytes.specs.Plain.{number_at}
use Rattle.guard_bytes.proofs.number_at.Goals as goal

pub returns : goal.returns
unfolding number_at
returns c = simp (c.shifted.ensures, c.word_of.ensures)
