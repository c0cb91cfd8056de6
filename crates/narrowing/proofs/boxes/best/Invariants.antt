use Rattle.narrowing.proofs.Terms.{SumTo}
use Rattle.narrowing.proofs.boxes.best.Given as goal

-- The loop's invariant: the sum so far, with the most that the products still to come add, is the most of all.
abbrev pub invariant-loop-i : goal.invariant-loop-i
invariant-loop-i l = SumTo l.e l.b.list l.i l.sum
