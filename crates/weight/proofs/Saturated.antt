-- What saturating says at the code's numbers, and what the definitions of a sum and a test come to at the code's records, case by case.
use mathlib.Core.Path.{◌≡◌, refl, sym, ◌∙◌, ap}
use mathlib.Core.Bool.{Bool, true, false, ◌||◌, cond}
use native.Mathlib.Omega.{arith}
use lib.IntN.{ℤ, pos, ◌+ℤ◌, ◌-ℤ◌}
use lib.Signed.{le_z}
use mir.Syntax.{w64}
use mir.Val.{SFits, to_z, of_z, bool_byte}
use mir.Facts.{sfits_lit}
use mir.ValLaws.{to_z-of_z}
use Rattle.integer.specs.Bits.{op_fits, op_is, op_back}
use Rattle.weight.specs.Fits.{Room, Within, saturated_within, within_fits, difference_fits, less_one_fits, plus_one_fits}
use Rattle.weight.specs.Fits.{plus_none_fits}
use Rattle.weight.specs.Upper.{none, MOST, saturate, saturated, sum_w, tighter_w}
use Rattle.weight.specs.Records.{weight_as, weight_of}
use Rattle.weight.specs.TestBySum.{test_sum, test_by_sum}
use Rattle.weight.specs.declared.Weight.{Weight}

-- two numbers that were clamped, at 64 bits
pub room : Room w64 4611686018427387903
room = record { twice = omega arith }

pub most : (x : ℤ) → Within 4611686018427387903 (saturate MOST x)
most x = saturated_within 4611686018427387903 x

-- what `clamped` says of a number that was passed as its bits
pub passed : {r : ℤ} (x : ℤ) → r ≡ saturate MOST (to_z w64 (of_z w64 x)) → SFits w64 x → r ≡ saturate MOST x
passed x e f = e ∙ ap (saturate MOST) (to_z-of_z w64 x f)

-- ---- the line of the test, step by step, at locals a and b that hold the two numbers
module _ (a b x y : ℤ) (ea : a ≡ x) (eb : b ≡ y) (mx : Within 4611686018427387903 x) (my : Within 4611686018427387903 y) where
  pub less_asks : SFits w64 (to_z w64 (of_z w64 b) -ℤ to_z w64 (of_z w64 a))
  less_asks = op_fits ◌-ℤ◌ w64 b a y x eb ea (within_fits room y my) (within_fits room x mx) (difference_fits room y x my mx)

  pub less_is : to_z w64 (of_z w64 b) -ℤ to_z w64 (of_z w64 a) ≡ y -ℤ x
  less_is = op_is ◌-ℤ◌ w64 b a y x eb ea (within_fits room y my) (within_fits room x mx)

  abbrev pub less : ℤ
  less = to_z w64 (of_z w64 b) -ℤ to_z w64 (of_z w64 a)

  pub less_one_asks : SFits w64 (to_z w64 (of_z w64 less) -ℤ pos 1)
  less_one_asks =
      op_fits ◌-ℤ◌ w64 less (pos 1) (y -ℤ x) (pos 1) less_is refl (difference_fits room y x my mx) (sfits_lit tt)
      (less_one_fits room y x my mx)

  pub less_one_is : to_z w64 (of_z w64 less) -ℤ pos 1 ≡ (y -ℤ x) -ℤ pos 1
  less_one_is = op_is ◌-ℤ◌ w64 less (pos 1) (y -ℤ x) (pos 1) less_is refl (difference_fits room y x my mx) (sfits_lit tt)

  abbrev pub less_one : ℤ
  less_one = to_z w64 (of_z w64 less) -ℤ pos 1

  -- a Bool as a number is 1 or 0
  pub plus_asks : (d : Bool) → SFits w64 (to_z w64 (of_z w64 less_one) +ℤ to_z w64 (bool_byte d))
  plus_asks true =
      op_fits ◌+ℤ◌ w64 less_one (pos 1) ((y -ℤ x) -ℤ pos 1) (pos 1) less_one_is refl (less_one_fits room y x my mx) (sfits_lit tt)
      (plus_one_fits room y x my mx)
  plus_asks false =
      op_fits ◌+ℤ◌ w64 less_one (pos 0) ((y -ℤ x) -ℤ pos 1) (pos 0) less_one_is refl (less_one_fits room y x my mx) (sfits_lit tt)
      (plus_none_fits room y x my mx)

  pub plus_is : (d : Bool)
      → to_z w64 (of_z w64 (to_z w64 (of_z w64 less_one) +ℤ to_z w64 (bool_byte d))) ≡ ((y -ℤ x) -ℤ pos 1) +ℤ cond d (pos 1) (pos 0)
  plus_is true =
      op_back ◌+ℤ◌ w64 less_one (pos 1) ((y -ℤ x) -ℤ pos 1) (pos 1) less_one_is refl (less_one_fits room y x my mx) (sfits_lit tt)
      (plus_one_fits room y x my mx)
  plus_is false =
      op_back ◌+ℤ◌ w64 less_one (pos 0) ((y -ℤ x) -ℤ pos 1) (pos 0) less_one_is refl (less_one_fits room y x my mx) (sfits_lit tt)
      (plus_none_fits room y x my mx)

-- ---- the cases
weight_path : {s t : Bool} {x y : ℤ} → s ≡ t → x ≡ y
    → ◌≡◌ {A = Weight} (record { none = false; strict = s; value = x }) (record { none = false; strict = t; value = y })
weight_path d e = λ i. record { none = false; strict = d i; value = e i }

module _ (a b : Weight) where
  pub sum_left : a.none ≡ true → weight_of none ≡ weight_of (sum_w (saturated (weight_as a)) (saturated (weight_as b)))
  unfolding sum_w saturated
  sum_left h = rw h refl

  pub sum_right : a.none ≡ false → b.none ≡ true → weight_of none ≡ weight_of (sum_w (saturated (weight_as a)) (saturated (weight_as b)))
  unfolding sum_w saturated
  sum_right h k = rw (h, k) refl

  pub sum_both : (s : Bool) (x : ℤ) → a.none ≡ false → b.none ≡ false → s ≡ (a.strict || b.strict)
      → x ≡ saturate MOST a.value +ℤ saturate MOST b.value
      → ◌≡◌ {A = Weight} (record { none = false; strict = s; value = x })
      (weight_of (sum_w (saturated (weight_as a)) (saturated (weight_as b))))
  unfolding sum_w saturated
  sum_both s x h k d e = rw (h, k) (weight_path d e)

  pub tighter_left : a.none ≡ true → false ≡ tighter_w (saturated (weight_as a)) (saturated (weight_as b))
  unfolding tighter_w saturated
  tighter_left h = rw h refl

  pub tighter_right : a.none ≡ false → b.none ≡ true → true ≡ tighter_w (saturated (weight_as a)) (saturated (weight_as b))
  unfolding tighter_w saturated
  tighter_right h k = rw (h, k) refl

  pub tighter_both : (r : ℤ) → a.none ≡ false → b.none ≡ false
      → r ≡ test_sum a.strict b.strict (saturate MOST a.value) (saturate MOST b.value)
      → le_z (pos 0) r ≡ tighter_w (saturated (weight_as a)) (saturated (weight_as b))
  unfolding saturated
  tighter_both r h k e = rw (h, k, e) (sym (test_by_sum a.strict b.strict (saturate MOST a.value) (saturate MOST b.value)))
