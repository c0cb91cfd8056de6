-- `locations::locations_at` meets its contract: the fields, then the body's end. Assumes nothing.
use Rattle.automaton.specs.Automaton.{locations_at}
use Rattle.automaton.proofs.locations.locations_at.Goals as goal

pub returns : goal.returns
unfolding locations_at
returns c = simp (c.finished-all.ensures, c.locations_read-all.ensures)
