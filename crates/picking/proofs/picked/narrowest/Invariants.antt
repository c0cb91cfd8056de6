use Rattle.std.proofs.Common.{◌<◌}
use Rattle.expr.specs.Records.{PARAMETERS}
use Rattle.corners.specs.Boxes.{Wide}
use Rattle.picking.proofs.picked.narrowest.Given as goal

-- The loop's invariant: the place picked so far has several numbers.
abbrev pub invariant-loop-i : goal.invariant-loop-i
invariant-loop-i l = (l.w < PARAMETERS) × Wide l.w l.b.list
