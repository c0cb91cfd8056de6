-- The places as the code keeps them, entry by entry.
use Prim.Native.Nat.{ℕ, ◌+◌, ◌<◌, ◌≤◌, min}
use mathlib.Core.Path.{◌≡◌, refl, ap, ◌∙◌}
use mathlib.Core.List.{List}
use native.Mathlib.Omega.{arith}
use native.Mathlib.Numerals.{add-one}
use lib.ListN.{set}
use Rattle.cursor.specs.declared.Cursor.{Cursor}
use Rattle.cursor.specs.Cursor.{byte_field, finished, iterate}
use Rattle.guards.specs.Guards.{guards_at}
use Rattle.automaton.specs.Automaton.{transition_at}
use Rattle.places.specs.Places.{short_of, Placed, place_step, places_at, location_places, transition_places}

-- one more entry
pub place_more :
    (next : Cursor → Cursor) (n i : ℕ) (start : Cursor) (p : Placed) (at : ℕ) (after : Cursor) → p ≡ places_at next n start i →
    at ≡ short_of p.cursor.at → after ≡ next p.cursor →
    record { cursor = after; list = set p.list i at } ≡ places_at next n start (i + 1)
unfolding iterate place_step
place_more next n i start p at after e f g = rw add-one (rw (f, g) (ap (place_step next i) e))

-- the places that were kept are those of the definition
done : (next : Cursor → Cursor) (n m count i : ℕ) (start : Cursor) (p : Placed) → m ≡ min count n → i ≤ m → (i < m → ⊥) →
    p ≡ places_at next n start i → p ≡ places_at next n start (min count n)
done next n m count i start p e l g h =
    let k : i ≡ min count n = omega arith in
    h ∙ ap (places_at next n start) k

pub location_places_done :
    (s : List ℕ) (end most parameters : ℕ) (cursor clocks count : Cursor) (m i : ℕ) (p : Placed) (after : Cursor) →
    clocks ≡ byte_field s end 1 4 cursor → count ≡ byte_field s end 1 16 clocks → m ≡ min count.byte 16 → i ≤ m → (i < m → ⊥) →
    p ≡ places_at (λ c. (guards_at s end most parameters clocks.byte c).cursor) 16 count i → after ≡ finished end p.cursor →
    record { cursor = after; clocks = clocks.byte; count = count.byte; list = p.list } ≡ location_places s end most parameters cursor
unfolding location_places
location_places_done s end most parameters cursor clocks count m i p after e f k l g h a =
    let all = done (λ c. (guards_at s end most parameters clocks.byte c).cursor) 16 m count.byte i count p k l g h in
    rw (a, all) (rw (f, e) refl)

pub transition_places_done :
    (s : List ℕ) (end most parameters clocks locations : ℕ) (cursor count : Cursor) (m i : ℕ) (p : Placed) (after : Cursor) →
    count ≡ byte_field s end 0 32 cursor → m ≡ min count.byte 32 → i ≤ m → (i < m → ⊥) →
    p ≡ places_at (λ c. (transition_at s end most parameters clocks locations c).cursor) 32 count i → after ≡ finished end p.cursor →
    record { cursor = after; count = count.byte; list = p.list } ≡ transition_places s end most parameters clocks locations cursor
unfolding transition_places
transition_places_done s end most parameters clocks locations cursor count m i p after f k l g h a =
    let all = done (λ c. (transition_at s end most parameters clocks locations c).cursor) 32 m count.byte i count p k l g h in
    rw (a, all) (rw f refl)
