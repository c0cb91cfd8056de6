use Rattle.opposites.specs.Opposite.{Opposite}
use Rattle.opposites.proofs.pairs.opposite.Given as goal

-- The loop's invariant: the coefficients before i are opposite.
abbrev pub invariant-loop-i : goal.invariant-loop-i
invariant-loop-i l = Opposite l.e.coefs l.f.coefs l.i
