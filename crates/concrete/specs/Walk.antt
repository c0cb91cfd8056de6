-- Sweep (paper 01, "Cutting the ranges", the rules read at one setting): what is left of a matrix of weights after the steps along a
-- route. For any number of clocks.
use Rattle.std.specs.Prelude.{List, [], ◌∷◌, ℕ, ℤ}
use Rattle.dbm.specs.Matrix.{Matrix, start, delayed, resets_m, Outcome, void, kept, guarded}
use Rattle.weight.specs.Upper.{Upper, none}
use Rattle.expr.specs.Bounds.{at_v}
use Rattle.expr.specs.Records.{bound_as}
use Rattle.sheet.specs.declared.Sheet.{Sheet}
use Rattle.timed.specs.Automaton.{route_of}
use Rattle.timed.specs.Steps.{Step, delay, guard, resets, steps_of}

-- what follows on a matrix that is not void yet
abbrev pub and_then : Outcome → (Matrix (Upper ℤ) → Outcome) → Outcome
and_then void f = void
and_then (kept m) f = f m

-- one step, with so many clocks, and v put into the guards
unfoldable pub step : ℕ → List ℤ → Step → Matrix (Upper ℤ) → Outcome
step w v delay m = kept (delayed w none m)
step w v (guard visit g) m = guarded w g.left g.right (at_v v (bound_as g.bound)) m
step w v (resets bits) m = kept (resets_m w bits w m)

-- steps in order
unfoldable pub walk : ℕ → List ℤ → List Step → Matrix (Upper ℤ) → Outcome
walk w v [] m = kept m
walk w v (s ∷ steps) m = and_then (step w v s m) (walk w v steps)

-- a whole route, from all entries zero, not strict
unfoldable pub sweep_along : Sheet → List ℕ → List ℤ → Outcome
sweep_along s route v = walk s.clocks v (steps_of s route) start

-- the sheet's own route
unfoldable pub sweep_at : Sheet → List ℤ → Outcome
sweep_at s v = sweep_along s (route_of s) v
