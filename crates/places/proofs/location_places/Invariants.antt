use mathlib.Core.Path.{◌≡◌}
use Rattle.guards.specs.Guards.{guards_at}
use Rattle.places.specs.Places.{places_at}
use Rattle.places.proofs.location_places.Given as goal

-- `location_places` meets its contract. The invariant: after i entries the places are what `iterate` gives. Assumes nothing.
abbrev pub invariant-loop-i : goal.invariant-loop-i
invariant-loop-i l = record { cursor = l.here; list = l.list } ≡
    places_at (λ c. (guards_at l.file l.end l.most l.parameters l.clocks.byte c).cursor) 16 l.initial.here l.i
