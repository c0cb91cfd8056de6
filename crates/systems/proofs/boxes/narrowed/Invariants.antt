use Rattle.systems.specs.Boxes.{Narrows}
use Rattle.inequalities.specs.Flat.{exprs_in}
use Rattle.systems.proofs.boxes.narrowed.Given as goal

-- The loop's invariant: no step loses a valuation that meets the inequalities.
abbrev pub invariant-loop-k : goal.invariant-loop-k
invariant-loop-k l = Narrows (exprs_in l.fn.flat l.fn.n) l.fn.b.list l.c.list
