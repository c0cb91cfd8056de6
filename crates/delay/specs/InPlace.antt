-- Changes of a matrix where it stands, one after another.
use Rattle.std.specs.Prelude.{◌≡◌, refl, Bool, true, false, cond, List, ℕ, ◌+◌, ◌*◌, ◌≤◌, ◌<◌, min, ltb, eqb, length, get_or, set}
use Rattle.std.proofs.Common.{sym, ap, ◌∙◌, arith, lt-ltb, le-ltb, eq-eqb, ne_eqb, get_or-set_same, set-set}
use Rattle.std.proofs.lemmas.List.{set-get_or}
use Rattle.cells.specs.Cells.{Cell, no_cell, with_matrix, on_matrix}
use Rattle.constrain.specs.RuleLaws.{read_c}
use Rattle.constrain.specs.Rules.{inside_c}
use Rattle.expr.specs.RecordLaws.{inside_any}
use Rattle.expr.specs.Records.{no_bound, zero_bound}
use Rattle.expr.specs.declared.bound.Bound.{Bound}
use Rattle.delay.specs.Delayed.{move_b, reset_pair, reset_if_b, reset_b}

module _ (cs : List Cell) (p : ℕ) where
  -- nothing is changed
  pub on_same : (f : List Bound → List Bound) → f (get_or cs p no_cell).bounds ≡ (get_or cs p no_cell).bounds → cs ≡ on_matrix cs p f
  on_same f e =
      sym (set-get_or cs p no_cell) ∙ ap (λ (m : List Bound). set cs p (with_matrix (get_or cs p no_cell) m)) (sym e)

  -- first f, then g
  pub on_twice : (full : length cs ≡ 90) → p < 90 → (f g : List Bound → List Bound) (cs₁ cs₂ : List Cell) → cs₁ ≡ on_matrix cs p f
      → cs₂ ≡ on_matrix cs₁ p g → cs₂ ≡ on_matrix cs p (λ (m : List Bound). g (f m))
  on_twice full h f g cs₁ cs₂ e₁ e₂ =
      e₂
      ∙ ap (λ (x : List Cell). on_matrix x p g) e₁
      ∙ ap (λ (c : Cell). set (on_matrix cs p f) p (with_matrix c (g c.bounds))) here
      ∙ set-set cs p (with_matrix (get_or cs p no_cell) (f (get_or cs p no_cell).bounds)) _
    where
      here : get_or (on_matrix cs p f) p no_cell ≡ with_matrix (get_or cs p no_cell) (f (get_or cs p no_cell).bounds)
      here = get_or-set_same cs p (with_matrix (get_or cs p no_cell) (f (get_or cs p no_cell).bounds)) no_cell (omega (arith, full))

-- what is read inside a matrix
pub read_zero : (m : List Bound) (k : ℕ) → length m ≡ 25 → k < 25 → read_c m k ≡ get_or m k zero_bound
unfolding inside_c
read_zero m k long h =
    let few : min k 24 ≡ k = omega arith in
    rw (lt-ltb k 25 h, few) (inside_any m k no_bound zero_bound (omega (arith, long)))

-- the cases of a pair, and of a clock
pub pair_there : (w r j : ℕ) → j ≤ w → (j ≡ r → ⊥)
    → (λ (m : List Bound). move_b (5 * j) (5 * j + r) (move_b j (5 * r + j) m)) ≡ reset_pair w r j
unfolding reset_pair
pair_there w r j h o = λ i m. by m i
  where
    by : (m : List Bound) → move_b (5 * j) (5 * j + r) (move_b j (5 * r + j) m) ≡ reset_pair w r j m
    by m = rw (le-ltb w j h, ne_eqb j r o) refl

pub pair_same : (w r j : ℕ) (m : List Bound) → j ≡ r → reset_pair w r j m ≡ m
unfolding reset_pair
pair_same w r j m e = by (ltb w j)
  where
    by : (t : Bool) → cond t m (cond (eqb j r) m
        (let a = set m (5 * r + j) (get_or m j zero_bound) in set a (5 * j + r) (get_or a (5 * j) zero_bound))) ≡ m
    by true = refl
    by false = rw (eq-eqb j r e) refl

pub pair_past : (w r j : ℕ) (m : List Bound) → w < j → reset_pair w r j m ≡ m
unfolding reset_pair
pair_past w r j m h = rw (lt-ltb w j h) refl

pub if_there : (w r bit : ℕ) → bit ≡ 1 → r ≤ w → reset_b w r ≡ reset_if_b w r bit
unfolding reset_if_b
if_there w r bit e h = λ i m. by m i
  where
    by : (m : List Bound) → reset_b w r m ≡ reset_if_b w r bit m
    by m = rw (eq-eqb bit 1 e, le-ltb w r h) refl

pub if_past : (w r bit : ℕ) (m : List Bound) → bit ≡ 1 → w < r → reset_if_b w r bit m ≡ m
unfolding reset_if_b
if_past w r bit m e h = rw (eq-eqb bit 1 e, lt-ltb w r h) refl

pub if_not : (w r bit : ℕ) (m : List Bound) → (bit ≡ 1 → ⊥) → reset_if_b w r bit m ≡ m
unfolding reset_if_b
if_not w r bit m o = rw (ne_eqb bit 1 o) refl
