-- There are as many moves as the route has transitions, and one delay more; and a guard's visit is the number of moves made before it.
use Rattle.std.specs.Prelude.{◌≡◌, length}
use Rattle.std.proofs.Math.Path.{ap}
use Rattle.std.proofs.Common.{◌∙◌}
use mathlib.Core.List.{List, [], ◌∷◌, ◌++◌, map}
use Prim.Native.Nat.{ℕ, suc}
use Rattle.sheet.specs.declared.Sheet.{Sheet}
use Rattle.timed.specs.Automaton.{invariants, guards_of, transition_at}
use Rattle.timed.specs.Steps.{guard, arrival_steps, stay_steps, move_steps, steps_from, steps_of, delays}
use Rattle.timed.specs.Steps.{moves}
use Rattle.timed.specs.Visits.{Visits, guards_visits, guards_delays, guards_moves, append_nil, resets_then, move_joined}

-- ---- the rest of a route
module _ (s : Sheet) where
  from_visits : (ns : List ℕ) (k l : ℕ) → Visits k (steps_from s k l ns)
  unfolding steps_from stay_steps arrival_steps
  from_visits [] k l = rw (← append_nil (map (guard k) (invariants s l))) (guards_visits k [] (invariants s l) tt)
  from_visits (n ∷ ns) k l =
      let to = (transition_at s n).to in
      let rest = steps_from s (suc k) to ns in
      guards_visits k (move_steps s k n ++ rest) (invariants s l)
      (rw (move_joined s k n rest) (guards_visits k (resets_then s k n rest) (guards_of s n)
      (guards_visits (suc k) rest (invariants s to) (from_visits ns (suc k) to))))

  from_delays : (ns : List ℕ) (k l : ℕ) → delays (steps_from s k l ns) ≡ suc (length ns)
  unfolding steps_from stay_steps arrival_steps delays
  from_delays [] k l = ap suc (rw (← append_nil (map (guard k) (invariants s l))) (guards_delays k [] (invariants s l)))
  from_delays (n ∷ ns) k l =
      let to = (transition_at s n).to in
      let rest = steps_from s (suc k) to ns in
      ap suc (guards_delays k (move_steps s k n ++ rest) (invariants s l) ∙ ap delays (move_joined s k n rest)
      ∙ guards_delays k (resets_then s k n rest) (guards_of s n) ∙ guards_delays (suc k) rest (invariants s to)
      ∙ from_delays ns (suc k) to)

  from_moves : (ns : List ℕ) (k l : ℕ) → moves (steps_from s k l ns) ≡ length ns
  unfolding steps_from stay_steps arrival_steps moves
  from_moves [] k l = rw (← append_nil (map (guard k) (invariants s l))) (guards_moves k [] (invariants s l))
  from_moves (n ∷ ns) k l =
      let to = (transition_at s n).to in
      let rest = steps_from s (suc k) to ns in
      guards_moves k (move_steps s k n ++ rest) (invariants s l) ∙ ap moves (move_joined s k n rest)
      ∙ guards_moves k (resets_then s k n rest) (guards_of s n) ∙ ap suc (guards_moves (suc k) rest (invariants s to)
      ∙ from_moves ns (suc k) to)

-- ---- a whole route
pub steps_visits : (s : Sheet) (route : List ℕ) → Visits 0 (steps_of s route)
unfolding steps_of arrival_steps
steps_visits s route = guards_visits 0 (steps_from s 0 0 route) (invariants s 0) (from_visits s route 0 0)

pub steps_delays : (s : Sheet) (route : List ℕ) → delays (steps_of s route) ≡ suc (length route)
unfolding steps_of arrival_steps
steps_delays s route = guards_delays 0 (steps_from s 0 0 route) (invariants s 0) ∙ from_delays s route 0 0

pub steps_moves : (s : Sheet) (route : List ℕ) → moves (steps_of s route) ≡ length route
unfolding steps_of arrival_steps
steps_moves s route = guards_moves 0 (steps_from s 0 0 route) (invariants s 0) ∙ from_moves s route 0 0
