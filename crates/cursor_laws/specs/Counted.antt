-- A counted loop past its count does nothing more, and a loop that does nothing is where it started.
use Prim.Native.Nat.{ℕ, zero, suc, ◌+◌, ◌-◌, ◌≤◌, ◌<◌}
use Rattle.std.specs.Prelude.{◌≡◌}
use Rattle.std.proofs.Math.Path.{refl}
use Rattle.std.proofs.Common.{ap, ◌∙◌}
use native.Mathlib.Omega.{arith}
use Rattle.cursor.specs.Cursor.{iterate}

module _ {A : Type 0} (f : ℕ → A → A) (a : A) where
  beyond_by : (m : ℕ) → ((i : ℕ) (x : A) → m ≤ i → f i x ≡ x) → (k : ℕ) → iterate f a (k + m) ≡ iterate f a m
  unfolding iterate
  beyond_by m h zero =
      let e : 0 + m ≡ m = omega arith in
      rw e refl
  beyond_by m h (suc k) =
      let e : suc k + m ≡ suc (k + m) = omega arith in
      rw e (h (k + m) (iterate f a (k + m)) (omega arith) ∙ beyond_by m h k)

  -- from step m on, where each step from there does nothing
  pub beyond : (m n : ℕ) → m ≤ n → ((i : ℕ) (x : A) → m ≤ i → f i x ≡ x) → iterate f a n ≡ iterate f a m
  beyond m n l h =
      let e : n ≡ n - m + m = omega arith in
      ap (iterate f a) e ∙ beyond_by m h (n - m)

  rests_by : (m : ℕ) (x : A) → iterate f a m ≡ x → ((i : ℕ) → m ≤ i → f i x ≡ x) → (k : ℕ) → iterate f a (k + m) ≡ x
  unfolding iterate
  rests_by m x e h zero =
      let z : 0 + m ≡ m = omega arith in
      rw z e
  rests_by m x e h (suc k) =
      let z : suc k + m ≡ suc (k + m) = omega arith in
      rw z (ap (f (k + m)) (rests_by m x e h k) ∙ h (k + m) (omega arith))

  -- at what it has reached at step m, where each step from there leaves that
  pub rests : (m n : ℕ) (x : A) → m ≤ n → iterate f a m ≡ x → ((i : ℕ) → m ≤ i → f i x ≡ x) → iterate f a n ≡ x
  rests m n x l e h =
      let z : n ≡ n - m + m = omega arith in
      ap (iterate f a) z ∙ rests_by m x e h (n - m)

  -- up to step n, where each step below n does nothing
  pub idle : (n : ℕ) → ((i : ℕ) (x : A) → i < n → f i x ≡ x) → iterate f a n ≡ a
  unfolding iterate
  idle zero h = refl
  idle (suc n) h = h n (iterate f a n) (omega arith) ∙ idle n (λ i x l. h i x (omega arith))
