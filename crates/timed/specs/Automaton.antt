-- The automaton of a sheet as it was read: locations with their invariants, transitions with their guards, the route.
-- Runs and Steps both read it; neither uses the other.
use Rattle.std.specs.Prelude.{List, ℕ, get_or, take}
use Rattle.guards.specs.declared.Guard.{Guard}
use Rattle.sheet.specs.declared.Sheet.{Sheet}
use Rattle.automaton.specs.declared.Transition.{Transition}
use Rattle.automaton.specs.Automaton.{no_transition, no_location}

-- the invariants (paper: standing limits) of a location (paper: stage)
unfoldable pub invariants : Sheet → ℕ → List Guard
invariants s l = take (get_or s.location l no_location).count (get_or s.location l no_location).guards

-- a transition (paper: move), and its guards
abbrev pub transition_at : Sheet → ℕ → Transition
transition_at s n = get_or s.transition n no_transition

unfoldable pub guards_of : Sheet → ℕ → List Guard
guards_of s n = take (transition_at s n).count (transition_at s n).guards

-- the sheet's own route, as transition numbers
unfoldable pub route_of : Sheet → List ℕ
route_of s = take s.moves s.route
