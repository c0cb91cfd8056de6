use mathlib.Core.Path.{◌≡◌}
use Rattle.cursor.specs.Cursor.{iterate}
use Rattle.automaton.specs.Automaton.{location_step}
use Rattle.automaton.proofs.locations.locations_read.Given as goal

-- `locations::locations_read` meets its contract. The invariant: after i steps the locations are what `iterate` gives. Assumes nothing.
abbrev pub invariant-loop-i : goal.invariant-loop-i
invariant-loop-i l = l.all ≡ iterate (location_step l.file l.end l.most l.parameters) l.initial.all l.i
