-- The loop's invariant: no step loses a valuation that meets the inequalities.
use native.Mathlib.Omega.{arith}
use Rattle.systems.specs.BoxLaws.{narrows_refl, narrows_cut}
use Rattle.systems.proofs.boxes.trimmed.Goals as goal

pub loop-j-init : goal.loop-j-init
loop-j-init c = narrows_refl _ _

-- what is left after one more cut
pub returns-then-r : goal.returns-then-r
returns-then-r c =
    narrows_cut _ _ c.in-Some.j _ _ _ (omega (arith, c.in-Some.ensures)) c.loop-j.invariant
    (rw c.inequality.ensures at c.raise-c.ensures)

pub loop-j-preserved : goal.loop-j-preserved
loop-j-preserved c =
    narrows_cut _ _ c.in-Some.j _ _ _ (omega (arith, c.in-Some.ensures)) c.loop-j.invariant
    (rw c.inequality.ensures at c.raise-c.ensures)
