use mathlib.Core.Path.{◌≡◌}
use Prim.Native.Nat.{◌≤◌}
use lib.IntN.{pos}
use Rattle.expr.specs.Records.{PARAMETERS}
use Rattle.search_c.specs.Input.{number_at}
use Rattle.search_c.proofs.Filled.{filled_to}
use Rattle.search_c.proofs.valuation_of.Given as goal

-- The loop's invariant: the places before i hold the numbers of the input.
abbrev pub invariant-loop-i : goal.invariant-loop-i
invariant-loop-i l = (l.i ≤ PARAMETERS) × (l.v.numbers ≡ filled_to (pos 0) (number_at l.s) l.i)
