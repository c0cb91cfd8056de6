use mathlib.Core.Path.{◌≡◌}
use Rattle.automaton.specs.Automaton.{transition_at}
use Rattle.places.specs.Places.{places_at}
use Rattle.places.proofs.transition_places.Given as goal

-- `transition_places` meets its contract. The invariant: after i entries the places are what `iterate` gives. Assumes nothing.
abbrev pub invariant-loop-i : goal.invariant-loop-i
invariant-loop-i l = record { cursor = l.here; list = l.list } ≡
    places_at (λ c. (transition_at l.file l.end l.most l.parameters l.clocks l.locations c).cursor) 32 l.initial.here l.i
