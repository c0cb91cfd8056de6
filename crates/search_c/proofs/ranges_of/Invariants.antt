use mathlib.Core.Path.{◌≡◌}
use Prim.Native.Nat.{◌≤◌}
use Rattle.expr.specs.Records.{PARAMETERS, blank_range}
use Rattle.search_c.specs.Input.{range_at}
use Rattle.search_c.proofs.Filled.{filled_to}
use Rattle.search_c.proofs.ranges_of.Given as goal

-- The loop's invariant: the places before i hold the ranges of the input.
abbrev pub invariant-loop-i : goal.invariant-loop-i
invariant-loop-i l = (l.i ≤ PARAMETERS) × (l.b.list ≡ filled_to blank_range (range_at l.s) l.i)
