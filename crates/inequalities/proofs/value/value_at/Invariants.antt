use Prim.Native.Nat.{◌≤◌}
use Rattle.expr.specs.Records.{PARAMETERS}
use Rattle.inequalities.proofs.Values.{ValueTo}
use Rattle.inequalities.proofs.value.value_at.Given as goal

-- The loop's invariant: the sum so far, with the products still to come, is the value.
abbrev pub invariant-loop-j : goal.invariant-loop-j
invariant-loop-j l = (l.j ≤ PARAMETERS) × ValueTo l.e l.v.numbers l.j l.total
