use Prim.Native.Nat.{◌-◌}
use Rattle.systems.specs.Boxes.{Narrows}
use Rattle.inequalities.specs.Flat.{exprs_in}
use Rattle.systems.proofs.boxes.trimmed.Given as goal

-- The loop's invariant: no step loses a valuation that meets the inequalities.
abbrev pub invariant-loop-j : goal.invariant-loop-j
invariant-loop-j l = Narrows (exprs_in l.flat l.n) l.initial.c.list l.c.list

abbrev pub decreases-loop-j : goal.decreases-loop-j
decreases-loop-j l = l.n - l.k
