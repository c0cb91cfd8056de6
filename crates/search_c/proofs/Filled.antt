-- A list that a loop fills place by place, and the records of the input.
use mathlib.Core.Path.{◌≡◌, refl, ap, ◌∙◌}
use mathlib.Core.List.{List, [], ◌∷◌}
use native.Mathlib.Numerals.{add-one}
use native.Mathlib.Omega.{arith}
use Prim.Native.Nat.{ℕ, zero, suc, ◌+◌, ◌*◌, ◌≤◌, ◌<◌}
use lib.IntN.{ℤ}
use lib.ListN.{set, replicate}
use Rattle.expr.specs.Records.{PARAMETERS}
use Rattle.expr.specs.declared.number.Valuation.{Valuation}
use Rattle.expr.specs.declared.range.Range.{Range}
use Rattle.expr.specs.declared.range.Ranges.{Ranges}
use Rattle.search_c.specs.Input.{number_at, range_at}

-- blanks, with the first i places filled by what f says of each
unfoldable pub filled_to : {A : Type 0} → A → (ℕ → A) → ℕ → List A
filled_to d f zero = replicate PARAMETERS d
filled_to d f (suc i) = set (filled_to d f i) i (f i)

module _ {A : Type 0} (d : A) (f : ℕ → A) where
  pub filled_start : replicate PARAMETERS d ≡ filled_to d f 0
  unfolding filled_to
  filled_start = refl

  pub filled_turn : (i : ℕ) (l : List A) (x : A) → l ≡ filled_to d f i → x ≡ f i → set l i x ≡ filled_to d f (i + 1)
  unfolding filled_to
  filled_turn i l x e h = rw (e, h, add-one) refl

  pub filled_all : (i : ℕ) (l : List A) → l ≡ filled_to d f i → i ≤ PARAMETERS → (i < PARAMETERS → ⊥) → l ≡ f 0 ∷ f 1 ∷ f 2 ∷ f 3 ∷ []
  unfolding filled_to
  filled_all i l e g h =
      let k : i ≡ PARAMETERS = omega arith in
      e ∙ ap (λ (j : ℕ). filled_to d f j) k

-- ---- what is made of equal parts is equal
pub range_is : (s : List ℤ) (i : ℕ) (a b : ℤ) → a ≡ number_at s (2 * i) → b ≡ number_at s (2 * i + 1)
    → ◌≡◌ {A = Range} (record { low = a; high = b }) (range_at s i)
unfolding range_at
range_is s i a b e f = rw (e, f) refl

pub ranges_are : (l m : List Range) → l ≡ m → ◌≡◌ {A = Ranges} (record { list = l }) (record { list = m })
ranges_are l m e = λ i. record { list = e i }

pub valuation_is : (l m : List ℤ) → l ≡ m → ◌≡◌ {A = Valuation} (record { numbers = l }) (record { numbers = m })
valuation_is l m e = λ i. record { numbers = e i }
