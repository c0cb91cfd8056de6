-- `coefs_at` meets its contract. The invariant: after i steps the coefficients are what `iterate` gives. Assumes nothing.
use mathlib.Core.Path.{◌≡◌, refl}
use native.Mathlib.Omega.{arith}
use native.Mathlib.Numerals.{add-one}
use Rattle.cursor.specs.Cursor.{iterate}
use Rattle.guards.specs.Guards.{zero_coefs, coefs_at}
use Rattle.guard_fields.proofs.coefs_at.Goals as goal

pub loop-i-init : goal.loop-i-init
unfolding iterate
loop-i-init c = refl

pub coef_step-all-requires : goal.coef_step-all-requires
coef_step-all-requires c = omega arith

pub loop-i-preserved : goal.loop-i-preserved
unfolding iterate
loop-i-preserved c = rw add-one (simp (c.coef_step-all.ensures, c.loop-i.invariant))

pub returns : goal.returns
unfolding coefs_at zero_coefs
returns c =
    let h : c.loop-i.i ≡ 4 = omega arith in
    simp (c.loop-i.invariant, h)
