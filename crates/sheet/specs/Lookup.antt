-- A sheet's locations and transitions by number. An index past the list's end stands for the first place.
use Rattle.std.specs.Prelude.{ℕ, cond, ltb, get_or}
use Rattle.automaton.specs.declared.Location.{Location}
use Rattle.automaton.specs.declared.Transition.{Transition}
use Rattle.automaton.specs.Automaton.{no_location, no_transition}
use Rattle.sheet.specs.declared.Sheet.{Sheet}

-- i, or 0 where i is not below n
abbrev pub at : ℕ → ℕ → ℕ
at n i = cond (ltb i n) i 0

-- the location with this number
unfoldable pub location_c : Sheet → ℕ → Location
location_c s l = get_or s.location (at 16 l) no_location

-- the transition with this number
unfoldable pub transition_c : Sheet → ℕ → Transition
transition_c s n = get_or s.transition (at 32 n) no_transition
