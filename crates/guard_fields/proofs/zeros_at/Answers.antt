-- `zeros_at` meets its contract. The invariant: after i steps reading stands where `iterate` says. Assumes nothing.
use mathlib.Core.Path.{◌≡◌, refl}
use native.Mathlib.Omega.{arith}
use native.Mathlib.Numerals.{add-one}
use Rattle.cursor.specs.Cursor.{iterate}
use Rattle.guards.specs.Guards.{zeros_at}
use Rattle.guard_fields.proofs.zeros_at.Goals as goal

pub loop-i-init : goal.loop-i-init
unfolding iterate
loop-i-init c = refl

pub loop-i-preserved : goal.loop-i-preserved
unfolding iterate
loop-i-preserved c = rw add-one (simp (c.zero_step-after.ensures, c.loop-i.invariant))

pub returns : goal.returns
unfolding zeros_at
returns c =
    let h : c.loop-i.i ≡ 4 = omega arith in
    simp (c.loop-i.invariant, h)
