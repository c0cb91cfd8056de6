-- Sums over the numbers from x on: those that are left from place i on.
use Rattle.std.specs.Prelude.{◌≡◌, ℕ, suc, ◌+◌, ◌-◌, ◌≤◌, ◌<◌, ℤ, pos, ◌+ℤ◌}
use Rattle.std.proofs.Math.Path.{refl}
use native.Mathlib.Omega.{arith}
use Rattle.std.proofs.Math.IntN.{+ℤ_idr}
use Rattle.integer.specs.Split.{split, split-all}
use Rattle.valuations.specs.SearchLaws.{total}

next : (x : ℤ) (i : ℕ) → (x +ℤ pos i) +ℤ pos 1 ≡ x +ℤ pos (i + 1)
next x i = rw (split x) (simp split-all (omega arith))

left : (n i : ℕ) → i < n → n - i ≡ suc (n - (i + 1))
left n i h = omega arith

module _ (f : ℤ → ℕ) (x : ℤ) where
  pub total_start : (n : ℕ) → 0 + total f (x +ℤ pos 0) (n - 0) ≡ total f x n
  total_start n =
      let e : n - 0 ≡ n = omega arith in
      rw (e, +ℤ_idr x) (omega arith)

  total_step : (y : ℤ) (m : ℕ) → total f y (suc m) ≡ f y + total f (y +ℤ pos 1) m
  unfolding total
  total_step y m = refl

  pub total_split : (n i : ℕ) → i < n → total f (x +ℤ pos i) (n - i) ≡ f (x +ℤ pos i) + total f (x +ℤ pos (i + 1)) (n - (i + 1))
  total_split n i h = rw (left n i h, total_step (x +ℤ pos i) (n - (i + 1)), next x i) refl

  pub total_end : (n i : ℕ) → n ≤ i → total f (x +ℤ pos i) (n - i) ≡ 0
  unfolding total
  total_end n i h =
      let e : n - i ≡ 0 = omega arith in
      rw e refl
