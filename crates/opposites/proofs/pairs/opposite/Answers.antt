-- The loop's invariant: the coefficients before i are opposite.
use native.Mathlib.Omega.{arith}
use borrow.Author.Count.{below_more}
use Rattle.std.proofs.lemmas.Int.{ints}
use Rattle.opposites.proofs.pairs.opposite.Goals as goal

pub loop-i-preserved : goal.loop-i-preserved
loop-i-preserved c = below_more _ _ c.loop-i.invariant (omega (arith, ints))
