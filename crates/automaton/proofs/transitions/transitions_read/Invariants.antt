use mathlib.Core.Path.{◌≡◌}
use Rattle.cursor.specs.Cursor.{iterate}
use Rattle.automaton.specs.Automaton.{transition_step}
use Rattle.automaton.proofs.transitions.transitions_read.Given as goal

-- `transitions::transitions_read` meets its contract. The invariant: after i steps the transitions are what `iterate` gives. Assumes
-- nothing.
abbrev pub invariant-loop-i : goal.invariant-loop-i
invariant-loop-i l = l.all ≡ iterate (transition_step l.file l.end l.most l.parameters l.clocks l.locations) l.initial.all l.i
