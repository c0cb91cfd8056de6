-- Numbers that were saturated at ±M, at a width that has room for twice as much: their sums and differences fit, and so does one less, and
-- one more again. Crate weight saturates 64 bits so, crate expr 32.
use Rattle.std.specs.Prelude.{◌≡◌, ℕ, ◌+◌, ◌*◌, ◌^◌, ◌≤◌, ◌<◌, ℤ, pos, neg_ℤ, ◌+ℤ◌, ◌-ℤ◌, ◌≤ℤ◌}
use Rattle.std.proofs.Common.{subst, ap, ◌∙◌, arith}
use Rattle.std.specs.Int.{Width, int_min, int_max}
use mir.Val.{SFits, hbits, to_z, of_z}
use mir.ValLaws.{to_z-of_z}
use Rattle.integer.specs.Bits.{held}
use Rattle.integer.specs.Parts.{p, n, pos_parts}
use Rattle.integer.specs.Product.{size_in, size_low, size_fits, sum_size, difference_size}
use Rattle.weight.specs.Laws.{saturate_within, clamp_saturates}
use Rattle.weight.specs.TestBySum.{one_back, none_back}
use Rattle.weight.specs.Upper.{saturate}

pub record Room (w : Width) (M : ℕ) : Type 0 where
  pub twice : 2 * M + 1 < 2 ^ hbits w

-- at most M in size
abbrev pub Within : ℕ → ℤ → Type 0
Within M x = p x + n x ≤ M

pub saturated_within : (M : ℕ) (x : ℤ) → Within M (saturate (pos M) x)
saturated_within M x =
    let h = saturate_within (pos M) x (size_low {A = M} (omega (arith, pos_parts M))) in
    size_in h.0 h.1

module _ {w : Width} {M : ℕ} (room : Room w M) where
  pub within_fits : (x : ℤ) → Within M x → SFits w x
  within_fits x a = size_fits w x (omega (arith, room.twice))

  -- a local that holds what `clamp` gave
  pub clamp_stored : (r x : ℤ) → r ≡ int_max (neg_ℤ (pos M)) (int_min (to_z w (of_z w x)) (pos M)) → SFits w x
      → to_z w (of_z w r) ≡ saturate (pos M) x
  clamp_stored r x e f =
      let o : neg_ℤ (pos M) ≤ℤ pos M = size_low {A = M} (omega (arith, pos_parts M)) in
      held w r (saturate (pos M) x)
      (e ∙ ap (λ (y : ℤ). int_max (neg_ℤ (pos M)) (int_min y (pos M))) (to_z-of_z w x f) ∙ clamp_saturates (pos M) x o)
      (within_fits (saturate (pos M) x) (saturated_within M x))

  module _ (x y : ℤ) (a : Within M x) (b : Within M y) where
    pub sum_fits : SFits w (x +ℤ y)
    sum_fits = size_fits w (x +ℤ y) (omega (arith, room.twice, sum_size x y a b))

    pub difference_fits : SFits w (x -ℤ y)
    difference_fits = size_fits w (x -ℤ y) (omega (arith, room.twice, difference_size x y a b))

    pub less_one_fits : SFits w ((x -ℤ y) -ℤ pos 1)
    less_one_fits =
        let one : p (pos 1) + n (pos 1) ≤ 1 = omega (arith, pos_parts 1) in
        size_fits w ((x -ℤ y) -ℤ pos 1) (omega (arith, room.twice, difference_size (x -ℤ y) (pos 1) (difference_size x y a b) one))

    pub plus_one_fits : SFits w (((x -ℤ y) -ℤ pos 1) +ℤ pos 1)
    plus_one_fits = subst (SFits w) (one_back (x -ℤ y)) difference_fits

    pub plus_none_fits : SFits w (((x -ℤ y) -ℤ pos 1) +ℤ pos 0)
    plus_none_fits = subst (SFits w) (none_back ((x -ℤ y) -ℤ pos 1)) less_one_fits
