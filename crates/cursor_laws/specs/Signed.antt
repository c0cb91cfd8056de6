-- The number of a signed field, for the proofs of the functions that form it: its sum fits 16 and 32 bits, and its bits stand for it.
use Rattle.std.specs.Prelude.{ℕ, suc, ◌<◌, ◌-◌, ◌≡◌, refl, Bool, true, false, cond, ltb, ℤ, pos, negsuc, ◌-ℤ◌}
use Rattle.std.proofs.Common.{arith, ap, ltb-true, ltb-false, Fits, SFits, to_z, of_z, to_z-of_z}
use Rattle.std.specs.Int.Signed.{mag}
use Rattle.std.specs.Int.{w16, w32}
use Rattle.std.proofs.Math.Facts.{sfits_widen, to_z_pos}
use Rattle.cursor.specs.Cursor.{signed_of}

small : (b : Bool) (w : ℕ) → ltb w 32768 ≡ b → w < 65536 → mag (cond b (negsuc (32768 - suc w)) (pos (w - 32768))) < 32768
small true w e h = omega (arith, ltb-true w 32768 e)
small false w e h = omega (arith, ltb-false w 32768 e)

-- the number fits 16 bits
pub number_short : (w : ℕ) → Fits w16 w → SFits w16 (signed_of w)
unfolding signed_of
number_short w f = record { sfits = small (ltb w 32768) w refl f.fits }

-- and 32 bits
pub number_wide : (w : ℕ) → Fits w16 w → SFits w32 (signed_of w)
number_wide w f = sfits_widen _ (number_short w f)

-- the sum that the code forms is the number
pub code_number : (w : ℕ) → Fits w16 w → to_z w32 w -ℤ pos 32768 ≡ signed_of w
unfolding signed_of
code_number w f = ap (λ (z : ℤ). z -ℤ pos 32768) (to_z_pos w32 {n = w} (omega arith))

-- its bits stand for it, at 32 bits and at 16
pub kept_wide : (w : ℕ) → Fits w16 w → to_z w32 (of_z w32 (signed_of w)) ≡ signed_of w
kept_wide w f = to_z-of_z (number_wide w f)

pub kept_short : (w : ℕ) → Fits w16 w → to_z w16 (of_z w16 (signed_of w)) ≡ signed_of w
kept_short w f = to_z-of_z (number_short w f)
