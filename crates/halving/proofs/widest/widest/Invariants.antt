use Rattle.halving.proofs.Loops.{WidestTo}
use Rattle.halving.proofs.widest.widest.Given as goal

-- The loop's invariant: the widest of the ranges before i.
abbrev pub invariant-loop-i : goal.invariant-loop-i
invariant-loop-i l = WidestTo l.b.list l.i l.w l.most
