use Rattle.sifting.specs.Sifting.{SiftedTo}
use Rattle.sifting.proofs.sift.sifted.Given as goal

-- Inequality by inequality: those so far are met exactly where the kept ones are.
abbrev pub invariant-loop-k : goal.invariant-loop-k
invariant-loop-k l = SiftedTo l.flat l.n l.worst.list l.kept l.m l.k
