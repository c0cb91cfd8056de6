use mathlib.Core.Path.{◌≡◌}
use Prim.Native.Nat.{◌-◌}
use Rattle.expr.specs.Records.{PARAMETERS}
use Rattle.corners.specs.Boxes.{wide_from}
use Rattle.corners.proofs.corners.wide.Given as goal

-- The loop's invariant: the first from i on is the first from the start on.
abbrev pub invariant-loop-i : goal.invariant-loop-i
invariant-loop-i l = wide_from l.b.list l.i (PARAMETERS - l.i) ≡ wide_from l.b.list l.start (PARAMETERS - l.start)
