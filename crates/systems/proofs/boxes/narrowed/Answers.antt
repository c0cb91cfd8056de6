-- The loop's invariant: no step loses a valuation that meets the inequalities.
use Prim.Native.Nat.{◌-◌}
use native.Mathlib.Omega.{arith}
use Rattle.systems.specs.BoxLaws.{narrows_refl, narrows_cut}
use Rattle.systems.proofs.boxes.narrowed.Goals as goal

pub loop-k-init : goal.loop-k-init
loop-k-init c = narrows_refl _ _

pub returns-then-r : goal.returns-then-r
returns-then-r c = narrows_cut _ _ (c.loop-k.k - 1) _ _ _ (omega arith) c.loop-k.invariant (rw c.inequality.ensures at c.cut-c.ensures)

pub loop-k-preserved : goal.loop-k-preserved
loop-k-preserved c =
    narrows_cut _ _ (c.loop-k.k - 1) _ _ _ (omega arith) c.loop-k.invariant (rw c.inequality.ensures at c.cut-c.ensures)
