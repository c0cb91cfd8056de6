-- The cases of the code's steps, with the branches' tests.
use mathlib.Core.Path.{◌≡◌, refl, ap, ◌∙◌}
use mathlib.Core.Bool.{true, false}
use Prim.Native.Nat.{ℕ, zero, suc, ◌-◌, ◌/◌, ◌%◌, ◌≤◌, ◌<◌, min}
use native.Mathlib.Omega.{arith}
use borrow.Author.Tests.{lt-ltb, le-ltb}
use lib.Dec.{ltb}
use Rattle.expr.specs.declared.bound.Bound.{Bound}
use Rattle.expr.specs.Records.{none_bound, zero_bound}
use Rattle.constrain.specs.Rules.{sum_c, place_c, places_at, inside_c, via_at, outside_c}

pub inside_in : (x : ℕ) (b : Bound) → x < 25 → b ≡ inside_c x b
unfolding inside_c
inside_in x b h = rw (lt-ltb x 25 h) refl

pub inside_out : (x : ℕ) (b : Bound) → 25 ≤ x → zero_bound ≡ inside_c x b
unfolding inside_c
inside_out x b h = rw (le-ltb x 25 h) refl

module _ (i j : ℕ) where
  pub places_first : (k x : ℕ) → k < 1 → x ≡ place_c j i → record { first = x; last = 25; was = 25; into = 0 } ≡ places_at i j k
  unfolding places_at
  places_first zero x h e = rw e refl
  places_first (suc k) x h e = absurd (omega arith)

  pub places_second : (k x : ℕ) → 1 ≤ k → k < 2 → x ≡ place_c i j → record { first = 25; last = 25; was = x; into = 0 } ≡ places_at i j k
  unfolding places_at
  places_second zero x h g e = absurd (omega arith)
  places_second (suc zero) x h g e = rw e refl
  places_second (suc (suc k)) x h g e = absurd (omega arith)

  places_at_lem : (x : ℕ) → record { first = place_c (x / 5) i; last = place_c j (x % 5); was = min x 25; into = min x 24 } ≡ places_at
      i j (suc (suc x))
  unfolding places_at
  places_at_lem x = refl

  pub places_third : (k x y z t : ℕ) → 2 ≤ k → x ≡ place_c ((k - 2) / 5) i → y ≡ place_c j ((k - 2) % 5) → z ≡ min (k - 2) 25
      → t ≡ min (k - 2) 24
      → record { first = x; last = y; was = z; into = t } ≡ places_at i j k
  places_third k x y z t h e f g m = rw (e, f, g, m) (places_at_lem (k - 2) ∙ ap (places_at i j) (omega arith))

module _ (w : ℕ) (e f l : Bound) where
  pub via_first : (k : ℕ) → k < 1 → (s : Bound) → s ≡ sum_c e f → s ≡ via_at w k e f l
  unfolding via_at
  via_first zero h s q = q
  via_first (suc k) h s q = absurd (omega arith)

  pub via_second : (k : ℕ) → 1 ≤ k → k < 2 → e ≡ via_at w k e f l
  unfolding via_at
  via_second zero h g = absurd (omega arith)
  via_second (suc zero) h g = refl
  via_second (suc (suc k)) h g = absurd (omega arith)

  via_past : (x : ℕ) → w < x / 5 → none_bound ≡ via_at w (suc (suc x)) e f l
  unfolding via_at
  via_past x g = rw (lt-ltb w (x / 5) g) refl

  via_beside : (x : ℕ) → x / 5 ≤ w → w < x % 5 → none_bound ≡ via_at w (suc (suc x)) e f l
  unfolding via_at
  via_beside x g m = rw (le-ltb w (x / 5) g, lt-ltb w (x % 5) m) refl

  via_in : (x : ℕ) → x / 5 ≤ w → x % 5 ≤ w → sum_c (sum_c f e) l ≡ via_at w (suc (suc x)) e f l
  unfolding via_at
  via_in x g m = rw (le-ltb w (x / 5) g, le-ltb w (x % 5) m) refl

  module _ (k : ℕ) (h : 2 ≤ k) where
    back : via_at w (suc (suc (k - 2))) e f l ≡ via_at w k e f l
    back = ap (λ (x : ℕ). via_at w x e f l) (omega arith)

    pub via_row : w < (k - 2) / 5 → none_bound ≡ via_at w k e f l
    via_row g = via_past (k - 2) g ∙ back

    pub via_column : (k - 2) / 5 ≤ w → w < (k - 2) % 5 → none_bound ≡ via_at w k e f l
    via_column g m = via_beside (k - 2) g m ∙ back

    pub via_third : (k - 2) / 5 ≤ w → (k - 2) % 5 ≤ w → (s t : Bound) → s ≡ sum_c f e → t ≡ sum_c s l → t ≡ via_at w k e f l
    via_third g m s t q p = p ∙ ap (λ (x : Bound). sum_c x l) q ∙ via_in (k - 2) g m ∙ back

module _ (w : ℕ) where
  pub outside_not : (k : ℕ) → k < 2 → false ≡ outside_c w k
  unfolding outside_c
  outside_not zero h = refl
  outside_not (suc zero) h = refl
  outside_not (suc (suc k)) h = absurd (omega arith)

  row_past : (x : ℕ) → w < x / 5 → true ≡ outside_c w (suc (suc x))
  unfolding outside_c
  row_past x g = rw (lt-ltb w (x / 5) g) refl

  row_in : (x : ℕ) → x / 5 ≤ w → ltb w (x % 5) ≡ outside_c w (suc (suc x))
  unfolding outside_c
  row_in x g = rw (le-ltb w (x / 5) g) refl

  module _ (k : ℕ) (h : 2 ≤ k) where
    back_out : outside_c w (suc (suc (k - 2))) ≡ outside_c w k
    back_out = ap (outside_c w) (omega arith)

    pub outside_row : w < (k - 2) / 5 → true ≡ outside_c w k
    outside_row g = row_past (k - 2) g ∙ back_out

    pub outside_column : (k - 2) / 5 ≤ w → ltb w ((k - 2) % 5) ≡ outside_c w k
    outside_column g = row_in (k - 2) g ∙ back_out
