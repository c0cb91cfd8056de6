-- The steps along a route, in order: what Sweep makes on a matrix and the cutting on a list of zones.
-- Runs have a definition of their own (Runs), which uses nothing of this.
use Rattle.std.specs.Prelude.{List, [], ◌∷◌, ◌++◌, map, ℕ, suc}
use Rattle.guards.specs.declared.Guard.{Guard}
use Rattle.sheet.specs.declared.Sheet.{Sheet}
use Rattle.timed.specs.Automaton.{invariants, guards_of, transition_at}

-- a step along a route: a delay (paper: wait); a guard (paper: limit) at a visit, which is the number of moves made and a refusal's place;
-- or resets, bit i - 1 for clock i
pub data Step : Type 0 where
  delay : Step
  guard : ℕ → Guard → Step
  resets : ℕ → Step

-- the invariants (paper: standing limits) of a location, at the start or on arrival
unfoldable pub arrival_steps : Sheet → ℕ → ℕ → List Step
arrival_steps s visit l = map (guard visit) (invariants s l)

-- a stay: a delay, then the location's invariants again
unfoldable pub stay_steps : Sheet → ℕ → ℕ → List Step
stay_steps s visit l = delay ∷ map (guard visit) (invariants s l)

-- a transition: its guards, which belong to the visit before it; its resets, with which the move is made; and the arrival, which belongs
-- to the visit after it
unfoldable pub move_steps : Sheet → ℕ → ℕ → List Step
move_steps s visit n =
    map (guard visit) (guards_of s n) ++ (resets (transition_at s n).resets ∷ arrival_steps s (suc visit) (transition_at s n).to)

-- from location l along the rest of a route: a stay and a transition each time, and one more stay
unfoldable pub steps_from : Sheet → ℕ → ℕ → List ℕ → List Step
steps_from s visit l [] = stay_steps s visit l
steps_from s visit l (n ∷ ns) = stay_steps s visit l ++ (move_steps s visit n ++ steps_from s (suc visit) (transition_at s n).to ns)

-- a whole route, from the start in location 0
unfoldable pub steps_of : Sheet → List ℕ → List Step
steps_of s route = arrival_steps s 0 0 ++ steps_from s 0 0 route

-- how many delays there are among the steps
unfoldable pub delays : List Step → ℕ
delays [] = 0
delays (delay ∷ steps) = suc (delays steps)
delays (guard visit g ∷ steps) = delays steps
delays (resets bits ∷ steps) = delays steps

-- how many transitions: each has one step of resets
unfoldable pub moves : List Step → ℕ
moves [] = 0
moves (delay ∷ steps) = moves steps
moves (guard visit g ∷ steps) = moves steps
moves (resets bits ∷ steps) = suc (moves steps)
