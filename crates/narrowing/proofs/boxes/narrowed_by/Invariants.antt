use Rattle.expr.specs.Records.{affine}
use Rattle.narrowing.specs.Cut.{Cut}
use Rattle.narrowing.proofs.boxes.narrowed_by.Given as goal

-- The loop's invariant: what is cut so far loses no valuation at which the inequality holds.
abbrev pub invariant-loop-i : goal.invariant-loop-i
invariant-loop-i g l = Cut (affine l.e) l.b.list l.c.list
