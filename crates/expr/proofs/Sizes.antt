-- Sizes: one more or one less fits the code's width.
use mathlib.Core.Path.{◌≡◌, refl}
use mathlib.Core.Bool.{Bool, true, false, cond}
use lib.IntN.{ℤ, pos, ◌+ℤ◌, ◌-ℤ◌}
use mir.Syntax.{w32}
use mir.Facts.{sfits_lit}
use mir.Val.{SFits, to_z, of_z, bool_byte}
use native.Mathlib.Omega.{arith}
use Rattle.integer.specs.Bits.{op_fits, op_back}
use Rattle.integer.specs.Split.{split, split-all}

-- ---- one less, and one more where a Bool is true: as a number it is 1 or 0
pub less_fits : (v : ℤ) → SFits w32 v → SFits w32 (v -ℤ pos 1) → SFits w32 (to_z w32 (of_z w32 v) -ℤ pos 1)
less_fits v f g = op_fits ◌-ℤ◌ w32 v (pos 1) v (pos 1) refl refl f (sfits_lit tt) g

pub less_is : (v : ℤ) → SFits w32 v → SFits w32 (v -ℤ pos 1) → to_z w32 (of_z w32 (to_z w32 (of_z w32 v) -ℤ pos 1)) ≡ v -ℤ pos 1
less_is v f g = op_back ◌-ℤ◌ w32 v (pos 1) v (pos 1) refl refl f (sfits_lit tt) g

zero_more : (v : ℤ) → SFits w32 v → SFits w32 (v +ℤ pos 0)
zero_more v = rw (split v) (simp split-all (omega arith))

pub plus_where_fits : (v : ℤ) (b : Bool) → SFits w32 v → SFits w32 (v +ℤ pos 1) → SFits w32 (to_z w32 (of_z w32 v) +ℤ to_z w32 (bool_byte b))
plus_where_fits v true f g = op_fits ◌+ℤ◌ w32 v (pos 1) v (pos 1) refl refl f (sfits_lit tt) g
plus_where_fits v false f g = op_fits ◌+ℤ◌ w32 v (pos 0) v (pos 0) refl refl f (sfits_lit tt) (zero_more v f)

pub plus_where_is : (v : ℤ) (b : Bool) → SFits w32 v → SFits w32 (v +ℤ pos 1)
    → to_z w32 (of_z w32 (to_z w32 (of_z w32 v) +ℤ to_z w32 (bool_byte b))) ≡ v +ℤ cond b (pos 1) (pos 0)
plus_where_is v true f g = op_back ◌+ℤ◌ w32 v (pos 1) v (pos 1) refl refl f (sfits_lit tt) g
plus_where_is v false f g = op_back ◌+ℤ◌ w32 v (pos 0) v (pos 0) refl refl f (sfits_lit tt) (zero_more v f)
