-- The places of the locations and of the transitions, as bodies 2 and 3 are read: before each entry, where it stands.
use Rattle.std.specs.Prelude.{ℕ, min, List, cond, ltb, set, replicate}
use Rattle.cursor.specs.declared.Cursor.{Cursor}
use Rattle.cursor.specs.Cursor.{byte_field, finished, iterate}
use Rattle.guards.specs.Guards.{guards_at}
use Rattle.automaton.specs.Automaton.{transition_at}
use Rattle.places.specs.declared.LocationPlaces.{LocationPlaces}
use Rattle.places.specs.declared.TransitionPlaces.{TransitionPlaces}

-- a place as it is kept, in two bytes
unfoldable pub short_of : ℕ → ℕ
short_of at = cond (ltb at 65536) at 0

-- where reading stands, and the places that were kept
pub record Placed : Type 0 where
  pub cursor : Cursor
  pub list : List ℕ

-- entry i: its place is kept, and reading goes on behind it
unfoldable pub place_step : (Cursor → Cursor) → ℕ → Placed → Placed
place_step next i p = record { cursor = next p.cursor; list = set p.list i (short_of p.cursor.at) }

-- the first i of at most n entries
abbrev pub places_at : (Cursor → Cursor) → ℕ → Cursor → ℕ → Placed
places_at next n cursor i = iterate (place_step next) (record { cursor = cursor; list = replicate n 0 }) i

-- body 2
unfoldable pub location_places : List ℕ → ℕ → ℕ → ℕ → Cursor → LocationPlaces
location_places s end most parameters cursor =
    let clocks = byte_field s end 1 4 cursor in
    let count = byte_field s end 1 16 clocks in
    let all = places_at (λ c. (guards_at s end most parameters clocks.byte c).cursor) 16 count (min count.byte 16) in
    record { cursor = finished end all.cursor; clocks = clocks.byte; count = count.byte; list = all.list }

-- body 3
unfoldable pub transition_places : List ℕ → ℕ → ℕ → ℕ → ℕ → ℕ → Cursor → TransitionPlaces
transition_places s end most parameters clocks locations cursor =
    let count = byte_field s end 0 32 cursor in
    let all = places_at (λ c. (transition_at s end most parameters clocks locations c).cursor) 32 count (min count.byte 32) in
    record { cursor = finished end all.cursor; count = count.byte; list = all.list }
