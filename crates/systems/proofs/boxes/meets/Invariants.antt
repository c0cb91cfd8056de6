use mathlib.Core.Path.{◌≡◌}
use Prim.Native.Nat.{◌-◌}
use Rattle.inequalities.specs.Flat.{exprs_from, exprs_in}
use Rattle.valuations.specs.Valuations.{satisfies}
use Rattle.systems.proofs.boxes.meets.Given as goal

-- The loop's invariant: the inequalities from k on are met exactly if all are.
abbrev pub invariant-loop-k : goal.invariant-loop-k
invariant-loop-k l = satisfies (exprs_from l.flat l.k (l.n - l.k)) l.v.numbers ≡ satisfies (exprs_in l.flat l.n) l.v.numbers
