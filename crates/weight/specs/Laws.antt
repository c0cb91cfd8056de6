-- What saturating does.
use Rattle.std.specs.Prelude.{◌≡◌, Bool, ℕ, ◌+◌, ◌≤◌, ℤ, pos, neg_ℤ, nat_abs, ◌≤ℤ◌}
use Rattle.std.proofs.Math.Path.{refl}
use Rattle.std.proofs.Math.Bool.{true, false, cond}
use Rattle.std.proofs.Common.{arith}
use Rattle.std.specs.Int.{int_min, int_max}
use Rattle.std.specs.Int.Signed.{le_z, lt_z, ≤ℤ_refl}
use Rattle.integer.specs.Order.{true_le_z, false_le_z, false_lt_z, le_z_true, lt_z_true, lt_z_false}
use Rattle.integer.specs.Parts.{p, n, nat_abs_parts}
use Rattle.integer.specs.Product.{size_low, size_high}
use Rattle.weight.specs.Upper.{saturate}

module _ (most x : ℤ) where
  -- a number in the range is not touched
  pub saturate_same : neg_ℤ most ≤ℤ x → x ≤ℤ most → saturate most x ≡ x
  unfolding saturate
  saturate_same h k =
      let a : le_z x most ≡ true = true_le_z k in
      let b : le_z (neg_ℤ most) x ≡ true = true_le_z h in
      rw (a, b) refl

  -- nor is one of a size in the range
  pub saturate_small : (M : ℕ) → most ≡ pos M → nat_abs x ≤ M → saturate most x ≡ x
  saturate_small M e h =
      let l : p x + n x ≤ M = omega (arith, nat_abs_parts x) in
      saturate_same (rw e (size_low l)) (rw e (size_high l))

  -- the nearer end of a range is what `clamp` gives
  pub clamp_saturates : neg_ℤ most ≤ℤ most → int_max (neg_ℤ most) (int_min x most) ≡ saturate most x
  unfolding saturate
  clamp_saturates o = high (lt_z most x) refl
    where
      low : (u : Bool) → lt_z x (neg_ℤ most) ≡ u → cond u (neg_ℤ most) x ≡ cond (le_z (neg_ℤ most) x) x (neg_ℤ most)
      low true h = let k : le_z (neg_ℤ most) x ≡ false = false_le_z {x = neg_ℤ most} {y = x} (lt_z_true h) in rw k refl
      low false h = let k : le_z (neg_ℤ most) x ≡ true = true_le_z {x = neg_ℤ most} {y = x} (lt_z_false {x = x} {y = neg_ℤ most} h) in rw k refl

      high : (t : Bool) → lt_z most x ≡ t
          → int_max (neg_ℤ most) (cond t most x) ≡ cond (le_z x most) (cond (le_z (neg_ℤ most) x) x (neg_ℤ most)) most
      high true h =
          let k : le_z x most ≡ false = false_le_z {x = x} {y = most} (lt_z_true h) in
          let j : lt_z most (neg_ℤ most) ≡ false = false_lt_z {x = most} {y = neg_ℤ most} o in
          rw (k, j) refl
      high false h = let k : le_z x most ≡ true = true_le_z {x = x} {y = most} (lt_z_false {x = most} {y = x} h) in rw k (low (lt_z x (neg_ℤ most)) refl)

  -- ---- what is saturated lies in the range
  pub saturate_within : neg_ℤ most ≤ℤ most → (neg_ℤ most ≤ℤ saturate most x) × (saturate most x ≤ℤ most)
  unfolding saturate
  saturate_within g = by (le_z x most) (le_z (neg_ℤ most) x) refl refl
    where
      by : (b d : Bool) → le_z x most ≡ b → le_z (neg_ℤ most) x ≡ d
          → (neg_ℤ most ≤ℤ cond b (cond d x (neg_ℤ most)) most) × (cond b (cond d x (neg_ℤ most)) most ≤ℤ most)
      by true true h k = (le_z_true k, le_z_true h)
      by true false h k = (≤ℤ_refl (neg_ℤ most), g)
      by false d h k = (g, ≤ℤ_refl most)
