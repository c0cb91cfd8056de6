-- A route in segments, each a list of steps.
use Rattle.std.specs.Prelude.{◌≡◌, List, [], ℕ, suc, ◌≤◌, ◌<◌, length, get_or, take}
use Rattle.automaton.specs.declared.Location.{Location}
use Rattle.automaton.specs.declared.Transition.{Transition}
use Rattle.sheet.specs.declared.Sheet.{Sheet}
use Rattle.sheet.specs.Lookup.{location_c, transition_c}
use Rattle.segments.specs.Lists.{Lists, invariant_steps, stay_steps, move_steps}
use Rattle.segments.specs.declared.segment.Segment.{Segment}

-- the route's moves, and how many there are
abbrev pub moves_of : Sheet → List ℕ
moves_of s = take s.moves s.route

abbrev pub size : Sheet → ℕ
size s = length (moves_of s)

-- a stay and move k, from `here` on
pub record Moved (s : Sheet) (k : ℕ) (here : Location) (r : Segment) : Type 0 where
  pub t : Transition
  pub found : t ≡ transition_c s (get_or s.route k 0)
  pub there : r.there ≡ location_c s t.to
  pub steps : Lists 20 (move_steps here k t r.there) r.steps

-- segment k, from `here` on
pub record Segmented (s : Sheet) (k : ℕ) (here : Location) (r : Segment) : Type 0 where
  pub few : r.steps.count ≤ 20
  pub starts : k ≡ 0 → (r.there ≡ here) × Lists 20 (invariant_steps here) r.steps
  pub moves : (j : ℕ) → k ≡ suc j → j < size s → Moved s j here r
  pub stays : k ≡ suc (size s) → Lists 20 (stay_steps here) r.steps
  pub ends : suc (size s) < k → Lists 20 [] r.steps
