-- A list by number: what f gives for 0, 1 and so on.
use Prim.Native.Nat.{ℕ, zero, suc, ◌+◌, ◌<◌}
use Rattle.std.specs.Prelude.{◌≡◌, List, [], ◌∷◌, length, get_or}
use Rattle.std.proofs.Math.Path.{refl, ap}
use Rattle.std.proofs.Common.{◌∙◌, arith, ext_get_or}

-- f i, f (i + 1), .., n of them
unfoldable pub listed_from : {A : Type 0} → (ℕ → A) → ℕ → ℕ → List A
listed_from f i zero = []
listed_from f i (suc n) = f i ∷ listed_from f (suc i) n

-- f 0, f 1, .., f (n - 1)
abbrev pub listed : {A : Type 0} → (ℕ → A) → ℕ → List A
listed f n = listed_from f 0 n

module _ {A : Type 0} (f : ℕ → A) where
  length_from : (n i : ℕ) → length (listed_from f i n) ≡ n
  unfolding listed_from
  length_from zero i = refl
  length_from (suc n) i = ap suc (length_from n (suc i))

  pub listed_long : (n : ℕ) → length (listed f n) ≡ n
  listed_long n = length_from n 0

module _ {A : Type 0} (f : ℕ → A) (d : A) where
  from_at : (n i k : ℕ) → k < n → get_or (listed_from f i n) k d ≡ f (i + k)
  unfolding listed_from
  from_at zero i k h = absurd (omega arith)
  from_at (suc n) i zero h = ap f (omega arith)
  from_at (suc n) i (suc k) h = from_at n (suc i) k (omega arith) ∙ ap f (omega arith)

  -- place k holds what f gives for k
  pub listed_at : (n k : ℕ) → k < n → get_or (listed f n) k d ≡ f k
  listed_at n k h = from_at n 0 k h ∙ ap f (omega arith)

  -- a list whose every place holds that is the list by number
  pub listed_all : (n : ℕ) (l : List A) → length l ≡ n → ((k : ℕ) → k < n → get_or l k d ≡ f k) → l ≡ listed f n
  listed_all n l e h =
      let long = listed_long f n in
      ext_get_or d l (listed f n) (rw (e, long) refl) (λ k b. let b' : k < n = omega arith in rw (h k b', listed_at n k b') refl)
