-- A number with a product added, each held as its bits.
use mathlib.Core.Path.{◌≡◌, refl}
use mathlib.Core.Bool.{true}
use Prim.Native.Nat.{ℕ, ◌+◌, ◌≤◌}
use native.Mathlib.Omega.{arith}
use lib.IntN.{ℤ, pos, ◌+ℤ◌, ◌*ℤ◌}
use lib.Signed.{le_z, ◌≤ℤ◌}
use mir.Syntax.{w64}
use mir.Val.{SFits, to_z, of_z}
use Rattle.integer.specs.Bits.{op_fits, op_back}
use Rattle.integer.specs.Order.{le_z_true}
use Rattle.integer.specs.Product.{size_fits, sum_size, size_low, size_high}
use Rattle.inequalities.specs.Sizes.{Sized, SizedTo}
use Rattle.intervals.specs.Interval.{Tame}

pub sized_tame : (m : ℤ) → SizedTo 5 m → Tame m
sized_tame m h =
    (size_low {x = m} {A = 4611686018427387903} (omega (arith, h)), size_high {x = m} {A = 4611686018427387903} (omega (arith, h)))

module _ (k : ℕ) (m x : ℤ) (few : k ≤ 5) (h : SizedTo k m) (g : Sized x) where
  m_fits : SFits w64 m
  m_fits = size_fits w64 m (omega arith)

  x_fits : SFits w64 x
  x_fits = size_fits w64 x (omega arith)

  end_fits : SFits w64 (m +ℤ x)
  end_fits = size_fits w64 (m +ℤ x) (omega (arith, sum_size m x h g))

  pub end_size : SizedTo (k + 1) (m +ℤ x)
  end_size = omega (arith, sum_size m x h g)

  pub end_asks : SFits w64 (to_z w64 (of_z w64 m) +ℤ to_z w64 (of_z w64 x))
  end_asks = op_fits ◌+ℤ◌ w64 m x m x refl refl m_fits x_fits end_fits

  pub end_is : to_z w64 (of_z w64 (to_z w64 (of_z w64 m) +ℤ to_z w64 (of_z w64 x))) ≡ m +ℤ x
  end_is = op_back ◌+ℤ◌ w64 m x m x refl refl m_fits x_fits end_fits

  pub end_holds : (c a y : ℤ) → m ≡ c → x ≡ a *ℤ y → le_z (pos 0) (to_z w64 (of_z w64 (to_z w64 (of_z w64 m) +ℤ to_z w64 (of_z w64 x)))) ≡ true
      → pos 0 ≤ℤ (c +ℤ (a *ℤ y))
  end_holds c a y e f t = le_z_true (rw (end_is, e, f) at t)
