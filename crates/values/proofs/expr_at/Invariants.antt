use Prim.Native.Nat.{◌≤◌}
use Rattle.values.proofs.Sums.{SumTo}
use Rattle.values.proofs.expr_at.Given as goal

-- The constant and a product for each parameter are small enough that 64 bits hold every sum; the last one is the value.
abbrev pub invariant-loop-i : goal.invariant-loop-i
invariant-loop-i l = (l.i ≤ 4) × SumTo l.e l.v l.i l.sum
