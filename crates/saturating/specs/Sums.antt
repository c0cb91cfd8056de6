-- Sums and differences of numbers that were clamped fit the code's width.
use Rattle.std.specs.Prelude.{◌≡◌, ℤ, pos, negsuc, neg_ℤ, ◌+ℤ◌, ◌-ℤ◌}
use Rattle.std.proofs.Common.{ap, ◌∙◌, SFits, to_z, of_z, arith}
use Rattle.std.specs.Int.Signed.{le_z_yes}
use Rattle.std.specs.Int.{w32}
use Rattle.std.proofs.Math.Facts.{sfits_lit}
use Rattle.std.proofs.lemmas.Int.{to_z-of_z}
use Rattle.integer.specs.Bits.{held, heard}
use Rattle.integer.specs.Split.{zero_minus}
use Rattle.weight.specs.Fits.{Room, Within, saturated_within, sum_fits, difference_fits}
use Rattle.weight.specs.Laws.{saturate_same}
use Rattle.weight.specs.Upper.{saturate}
use Rattle.saturating.specs.Largest.{LARGEST}

pub room : Room w32 1073741823
room = record { twice = omega arith }

pub clamped_in : (x : ℤ) → Within 1073741823 (saturate LARGEST x)
clamped_in x = saturated_within 1073741823 x

-- what `clamped` answers on a number that was passed as its bits
pub told : {r : ℤ} (x : ℤ) → r ≡ saturate LARGEST (to_z w32 (of_z w32 x)) → SFits w32 x → r ≡ saturate LARGEST x
told x e f = e ∙ ap (saturate LARGEST) (to_z-of_z w32 x f)

-- what `sum` and `difference` answer on numbers that were passed as their bits, once it is stored
abbrev pub sum_c : ℤ → ℤ → ℤ
sum_c x y = saturate LARGEST x +ℤ saturate LARGEST y

abbrev pub difference_c : ℤ → ℤ → ℤ
difference_c x y = saturate LARGEST x -ℤ saturate LARGEST y

module _ (r x y : ℤ) (fx : SFits w32 x) (fy : SFits w32 y) where
  pub sum_stored : r ≡ sum_c (to_z w32 (of_z w32 x)) (to_z w32 (of_z w32 y)) → to_z w32 (of_z w32 r) ≡ sum_c x y
  sum_stored e = held w32 r (sum_c x y) (heard sum_c w32 w32 r x y e fx fy) (sum_fits room _ _ (clamped_in x) (clamped_in y))

  pub difference_stored : r ≡ difference_c (to_z w32 (of_z w32 x)) (to_z w32 (of_z w32 y)) → to_z w32 (of_z w32 r) ≡ difference_c x y
  difference_stored e =
      held w32 r (difference_c x y) (heard difference_c w32 w32 r x y e fx fy) (difference_fits room _ _ (clamped_in x) (clamped_in y))

-- the numbers of an opposite: -1 less the constant, and the coefficients turned round
module _ (r x : ℤ) (fx : SFits w32 x) where
  pub turned_stored : r ≡ difference_c (to_z w32 (of_z w32 (negsuc 0))) (to_z w32 (of_z w32 x))
      → to_z w32 (of_z w32 r) ≡ negsuc 0 -ℤ saturate LARGEST x
  turned_stored e =
      let k : saturate LARGEST (negsuc 0) ≡ negsuc 0 = saturate_same LARGEST (negsuc 0) (le_z_yes tt) (le_z_yes tt) in
      rw k at (difference_stored r (negsuc 0) x (sfits_lit tt) fx e)

  pub negated_stored : r ≡ difference_c (to_z w32 (of_z w32 (pos 0))) (to_z w32 (of_z w32 x)) → to_z w32 (of_z w32 r) ≡ neg_ℤ (saturate LARGEST x)
  negated_stored e =
      let k : saturate LARGEST (pos 0) ≡ pos 0 = saturate_same LARGEST (pos 0) (le_z_yes tt) (le_z_yes tt) in
      (rw k at (difference_stored r (pos 0) x (sfits_lit tt) fx e)) ∙ zero_minus (saturate LARGEST x)
