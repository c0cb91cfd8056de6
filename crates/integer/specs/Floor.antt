-- Floor division of ℤ for every divisor: what it is by the orders, how large it is, and how code computes it from the quotient toward
-- zero.
use Rattle.std.specs.Prelude.{◌≡◌, refl, ◌↔◌, ℕ, suc, ◌+◌, ◌*◌, ◌/◌, ◌^◌, ◌<◌, ◌≤◌, ℤ, pos, negsuc, neg_ℤ, ◌+ℤ◌, ◌-ℤ◌, ◌*ℤ◌, ◌≤ℤ◌, ◌<ℤ◌}
use Rattle.std.proofs.Common.{ap, ◌∙◌, le-div_iff_mul-le, div-lt_iff_lt-mul, div-le_self, le_trans, lt_of_le_of_lt, arith}
use Rattle.std.proofs.Math.IntN.{*ℤ-negsuc}
use Rattle.std.specs.Int.Signed.{mag_shr, quot_z, shr_z, <ℤ_irrefl, ≤ℤ_refl}
use Rattle.std.specs.Int.{Width}
use mir.Val.{SFits, hbits}
use Rattle.integer.specs.Parts.{p, n, +-parts, neg_parts, pos_parts, -parts, zs}
use Rattle.integer.specs.Order.{≰ℤ→>ℤ}
use Rattle.integer.specs.Split.{split, split-all}
use Rattle.integer.specs.Product.{size_fits, size_in, size_low, size_high}

-- z / d, rounded down
unfoldable pub floor_z : ℤ → ℤ → ℤ
floor_z z (pos d) = shr_z z d
floor_z z (negsuc d) = shr_z (neg_ℤ z) (suc d)

-- ---- a floor is the greatest integer below the quotient
shr_floor : (x z : ℤ) (d : ℕ) → 0 < d → (x ≤ℤ shr_z z d) ↔ ((x *ℤ pos d) ≤ℤ z)
unfolding p n
shr_floor (pos b) (pos a) d h = (λ k. to k, λ k. back k)
  where
    to : pos b ≤ℤ pos (a / d) → pos (b * d) ≤ℤ pos a
    to k = let l : b ≤ a / d = omega zs in omega (zs, (le-div_iff_mul-le h).0 l)

    back : pos (b * d) ≤ℤ pos a → pos b ≤ℤ pos (a / d)
    back k = let l : b * d ≤ a = omega zs in omega (zs, (le-div_iff_mul-le h).1 l)
shr_floor (pos b) (negsuc a) d h = (λ k. absurd k.le, λ k. absurd k.le)
shr_floor (negsuc b) (pos a) d h = (λ k. omega (zs, neg_parts (pos (suc b * d))), λ k. omega zs)
shr_floor (negsuc b) (negsuc a) d h = (λ k. to k, λ k. back k)
  where
    to : negsuc b ≤ℤ negsuc (a / d) → neg_ℤ (pos (suc b * d)) ≤ℤ negsuc a
    to k = let l : a / d < suc b = omega zs in omega (zs, neg_parts (pos (suc b * d)), (div-lt_iff_lt-mul h).0 l)

    back : neg_ℤ (pos (suc b * d)) ≤ℤ negsuc a → negsuc b ≤ℤ negsuc (a / d)
    back k = let l : a < suc b * d = omega (zs, neg_parts (pos (suc b * d))) in omega (zs, (div-lt_iff_lt-mul h).1 l)

pub floor_pos : (x z d : ℤ) → pos 0 <ℤ d → (x ≤ℤ floor_z z d) ↔ ((x *ℤ d) ≤ℤ z)
unfolding floor_z p n
floor_pos x z (pos d) h = shr_floor x z d (omega zs)
floor_pos x z (negsuc d) h = absurd h.lt

neg_across : (x y : ℤ) → (x ≤ℤ neg_ℤ y) ↔ (y ≤ℤ neg_ℤ x)
neg_across x y = (λ h. omega (zs, neg_parts x, neg_parts y), λ h. omega (zs, neg_parts x, neg_parts y))

pub floor_neg : (x z d : ℤ) → d <ℤ pos 0 → (x ≤ℤ floor_z z d) ↔ (z ≤ℤ (x *ℤ d))
unfolding floor_z p n
floor_neg x z (pos d) h = absurd (omega zs)
floor_neg x z (negsuc d) h = (
  λ k. rw *ℤ-negsuc ((neg_across (x *ℤ pos (suc d)) z).0 ((shr_floor x (neg_ℤ z) (suc d) (omega arith)).0 k)),
  λ k. (shr_floor x (neg_ℤ z) (suc d) (omega arith)).1 ((neg_across z (x *ℤ pos (suc d))).0 (rw *ℤ-negsuc at k)),
)

-- the floor times the divisor does not pass z, and one more does
pub floor_mul_pos : (z d : ℤ) → pos 0 <ℤ d → (floor_z z d *ℤ d) ≤ℤ z
floor_mul_pos z d h = (floor_pos (floor_z z d) z d h).0 (≤ℤ_refl (floor_z z d))

pub floor_mul_neg : (z d : ℤ) → d <ℤ pos 0 → z ≤ℤ (floor_z z d *ℤ d)
floor_mul_neg z d h = (floor_neg (floor_z z d) z d h).0 (≤ℤ_refl (floor_z z d))

suc_above : (x y : ℤ) → ((x +ℤ pos 1) ≤ℤ y) → x <ℤ y
suc_above x y h = omega (zs, +-parts x (pos 1), pos_parts 1)

pub floor_suc_pos : (z d : ℤ) → pos 0 <ℤ d → z <ℤ ((floor_z z d +ℤ pos 1) *ℤ d)
floor_suc_pos z d h = ≰ℤ→>ℤ (λ k. <ℤ_irrefl (suc_above (floor_z z d) (floor_z z d) ((floor_pos (floor_z z d +ℤ pos 1) z d h).1 k)))

pub floor_suc_neg : (z d : ℤ) → d <ℤ pos 0 → ((floor_z z d +ℤ pos 1) *ℤ d) <ℤ z
floor_suc_neg z d h = ≰ℤ→>ℤ (λ k. <ℤ_irrefl (suc_above (floor_z z d) (floor_z z d) ((floor_neg (floor_z z d +ℤ pos 1) z d h).1 k)))

-- ---- how large it is
shr_size : (z : ℤ) (d : ℕ) → p (shr_z z d) + n (shr_z z d) ≤ p z + n z
unfolding p n
shr_size (pos a) d = omega (arith, div-le_self a d)
shr_size (negsuc a) d = omega (arith, div-le_self a d)

pub floor_size : (z d : ℤ) → p (floor_z z d) + n (floor_z z d) ≤ p z + n z
unfolding floor_z
floor_size z (pos d) = shr_size z d
floor_size z (negsuc d) = omega (arith, shr_size (neg_ℤ z) (suc d), neg_parts z)

-- by a divisor that is not negative it fits where z does
pub floor_fits : {w : Width} (z d : ℤ) → pos 0 ≤ℤ d → SFits w z → SFits w (floor_z z d)
unfolding floor_z
floor_fits z (pos d) h f = record { sfits = lt_of_le_of_lt (mag_shr z d) f.sfits }
floor_fits z (negsuc d) h f = absurd h.le

-- by any divisor it fits where z and -z do
pub floor_fits_all : (w : Width) (z d : ℤ) → p z + n z < 2 ^ hbits w → SFits w (floor_z z d)
floor_fits_all w z d h = size_fits w (floor_z z d) (lt_of_le_of_lt (floor_size z d) h)

pub floor_within : {z : ℤ} (d : ℤ) {A : ℕ} → neg_ℤ (pos A) ≤ℤ z → z ≤ℤ pos A → (neg_ℤ (pos A) ≤ℤ floor_z z d) × (floor_z z d ≤ℤ pos A)
floor_within {z} d h k = (size_low (le_trans (floor_size z d) (size_in h k)), size_high (le_trans (floor_size z d) (size_in h k)))

-- ---- how code computes it
pub floor_quot : (z d : ℤ) → pos 0 ≤ℤ z → pos 0 <ℤ d → quot_z z d ≡ floor_z z d
unfolding floor_z
floor_quot (pos a) (pos d) h k = refl
floor_quot (pos a) (negsuc d) h k = absurd k.lt
floor_quot (negsuc a) d h k = absurd h.le

-- -1 - z
pub complement_pos : (a : ℕ) → negsuc 0 -ℤ pos a ≡ negsuc a
unfolding p n
complement_pos a = omega (zs, -parts (negsuc 0) (pos a))

pub complement_negsuc : (a : ℕ) → negsuc 0 -ℤ negsuc a ≡ pos a
unfolding p n
complement_negsuc a = omega (zs, -parts (negsuc 0) (negsuc a))

pub complement_neg : (z : ℤ) → neg_ℤ (z +ℤ pos 1) ≡ negsuc 0 -ℤ z
complement_neg z = rw (split z) (simp split-all (omega arith))

pub floor_quot_neg : (z d : ℤ) → z <ℤ pos 0 → pos 0 <ℤ d → negsuc 0 -ℤ quot_z (negsuc 0 -ℤ z) d ≡ floor_z z d
unfolding floor_z p n
floor_quot_neg (pos a) d h k = absurd (omega zs)
floor_quot_neg (negsuc a) (pos d) h k = ap (λ (x : ℤ). negsuc 0 -ℤ quot_z x (pos d)) (complement_negsuc a) ∙ complement_pos (a / d)
floor_quot_neg (negsuc a) (negsuc d) h k = absurd k.lt

pub floor_turn : (z d : ℤ) → d <ℤ pos 0 → floor_z z d ≡ floor_z (neg_ℤ z) (neg_ℤ d)
unfolding floor_z p n
floor_turn z (pos d) h = absurd (omega zs)
floor_turn z (negsuc d) h = refl
