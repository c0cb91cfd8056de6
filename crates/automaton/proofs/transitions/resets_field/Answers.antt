-- `transitions::resets_field` meets its contract: code and definition are one composition. Assumes nothing.
use Rattle.automaton.specs.Automaton.{resets_field}
use Rattle.automaton.proofs.transitions.resets_field.Goals as goal

pub returns : goal.returns
unfolding resets_field
returns c = simp (c.judged.ensures, c.resets_right.ensures, c.byte_field-taken.ensures)
