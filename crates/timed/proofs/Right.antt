-- The steps along any route of an accepted sheet are right, and its own route has at most 33 delays.
use Rattle.std.specs.Prelude.{ℕ, suc, ◌≤◌}
use mathlib.Core.List.{List, [], ◌∷◌, ◌++◌}
use Rattle.std.proofs.Common.{arith}
use Rattle.sheet.specs.declared.Sheet.{Sheet}
use Rattle.sheet.specs.WellFormed.{WellFormed}
use Rattle.timed.specs.Automaton.{transition_at, route_of}
use Rattle.timed.specs.Steps.{arrival_steps, stay_steps, move_steps, steps_from, steps_of, delays}
use Rattle.timed.proofs.Visits.{steps_delays}
use Rattle.timed.specs.Right.{StepRight, StepsAll, all_append, arrival_right, stay_right, move_right, route_short}

module _ {s : Sheet} (f : WellFormed s) where
  from_right : (ns : List ℕ) (visit l : ℕ) → StepsAll s (steps_from s visit l ns)
  unfolding steps_from
  from_right [] visit l = stay_right f visit l
  from_right (n ∷ ns) visit l =
      let rest = steps_from s (suc visit) (transition_at s n).to ns in
      all_append (StepRight s.parameters s.clocks) (stay_steps s visit l) (move_steps s visit n ++ rest) (stay_right f visit l)
      (all_append (StepRight s.parameters s.clocks) (move_steps s visit n) rest (move_right f visit n)
      (from_right ns (suc visit) (transition_at s n).to))

  pub steps_right : (route : List ℕ) → StepsAll s (steps_of s route)
  unfolding steps_of
  steps_right route =
      all_append (StepRight s.parameters s.clocks) (arrival_steps s 0 0) (steps_from s 0 0 route) (arrival_right f 0 0)
      (from_right route 0 0)

  -- ---- the sheet's own route
  pub route_delays : delays (steps_of s (route_of s)) ≤ 33
  route_delays = omega (arith, route_short f, steps_delays s (route_of s))
