use Rattle.clashes.proofs.Sums.{SumTo}
use Rattle.clashes.proofs.sum.mixed.Given as goal

-- The loop's invariant: the sum so far, with the most that the products still to come add, is the most of all.
abbrev pub invariant-loop-i : goal.invariant-loop-i
invariant-loop-i l = SumTo l.l l.e l.m l.f l.b.list l.i l.sum
