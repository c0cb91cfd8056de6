-- The members of a range, from the i-th on: the first of all is the first of these, or of those behind it.
use mathlib.Core.Path.{◌≡◌, refl}
use mathlib.Core.List.{List}
use mathlib.Core.Option.{Option}
use Prim.Native.Nat.{ℕ, suc, ◌+◌, ◌-◌, ◌<◌}
use native.Mathlib.Omega.{arith}
use lib.IntN.{ℤ, pos, ◌+ℤ◌, +ℤ_idr}
use Rattle.integer.specs.Split.{split, split-all}
use Rattle.valuations.specs.SearchLaws.{first_over, or_else}

next : (x : ℤ) (i : ℕ) → (x +ℤ pos i) +ℤ pos 1 ≡ x +ℤ pos (i + 1)
next x i = rw (split x) (simp split-all (omega arith))

left : (n i : ℕ) → i < n → n - i ≡ suc (n - (i + 1))
left n i h = omega arith

module _ (g : ℤ → Option (List ℤ)) (x : ℤ) where
  pub first_start : (n : ℕ) → first_over g (x +ℤ pos 0) (n - 0) ≡ first_over g x n
  first_start n =
      let e : n - 0 ≡ n = omega arith in
      rw (e, +ℤ_idr x) refl

  pub first_turn : (n i : ℕ) → i < n
      → first_over g (x +ℤ pos i) (n - i) ≡ or_else (g (x +ℤ pos i)) (first_over g (x +ℤ pos (i + 1)) (n - (i + 1)))
  unfolding first_over
  first_turn n i h = rw (left n i h, next x i) refl
