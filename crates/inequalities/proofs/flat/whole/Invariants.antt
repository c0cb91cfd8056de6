use Prim.Native.Nat.{◌≤◌}
use Rattle.expr.specs.Records.{PARAMETERS}
use Rattle.inequalities.proofs.Reading.{ReadTo}
use Rattle.inequalities.proofs.flat.whole.Given as goal

-- The numbers one after another.
abbrev pub invariant-loop-i : goal.invariant-loop-i
invariant-loop-i l = (l.i ≤ PARAMETERS) × ReadTo l.flat l.at l.i l.e
