-- `transitions::transitions_at` meets its contract: the fields, then the body's end. Assumes nothing.
use Rattle.automaton.specs.Automaton.{transitions_at}
use Rattle.automaton.proofs.transitions.transitions_at.Goals as goal

pub returns : goal.returns
unfolding transitions_at
returns c = simp (c.finished-all.ensures, c.transitions_read-all.ensures)
