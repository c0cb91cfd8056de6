-- The most of a weighted sum in a box, product by product, and that 64 bits hold each step.
use mathlib.Core.Path.{◌≡◌, refl, ap, sym, subst, ◌∙◌}
use mathlib.Core.Bool.{Bool, true, false, cond}
use mathlib.Core.List.{List}
use Prim.Native.Nat.{ℕ, suc, ◌+◌, ◌-◌, ◌≤◌, ◌<◌}
use native.Mathlib.Numerals.{add-one}
use native.Mathlib.Omega.{arith}
use lib.IntN.{ℤ, pos, ◌+ℤ◌, ◌*ℤ◌}
use lib.ListN.{length, get_or, drop}
use lib.Seq.{drop-cons}
use lib.Signed.{le_z, lt_z, ◌≤ℤ◌, ≤ℤ_refl}
use mir.Syntax.{w16, w32, w64}
use mir.Val.{SFits, to_z, of_z}
use mir.ValLaws.{to_z-of_z}
use Rattle.integer.specs.Order.{zts, lt_z_true, lt_z_false}
use Rattle.integer.specs.Parts.{nonneg_part, pos_parts}
use Rattle.integer.specs.Product.{fits_size, size_fits, sum_size, product_size}
use Rattle.integer.specs.Split.{split, split-all}
use Rattle.expr.specs.Records.{PARAMETERS, places_from, affine, blank_range}
use Rattle.expr.specs.declared.number.Expr.{Expr}
use Rattle.expr.specs.declared.range.Range.{Range}
use Rattle.narrowing.specs.Best.{best, best_sum, best_of}
use Rattle.clashes.specs.Sizes.{Multiplier, SizedTerm, SizedCoef, SizedMost, SizedSum}
use Rattle.clashes.specs.Weighted.{Clash, weigh, weigh_l, weigh_e, weigh_clash}

-- ---- multipliers
pub none_times : Multiplier (pos 0)
none_times = (≤ℤ_refl (pos 0), omega (arith, pos_parts 0))

pub one_time : Multiplier (pos 1)
one_time = (record { le = tt }, omega (arith, pos_parts 1))

pub tested : (z : ℤ) → lt_z z (pos 0) ≡ false → lt_z (pos 4096) z ≡ false → Multiplier z
tested z h k = let g : pos 0 ≤ℤ z = lt_z_false h in (g, omega (zts, nonneg_part g, pos_parts 4096))

pub multiplier_fits : (l : ℤ) → Multiplier l → SFits w64 l
multiplier_fits l h = size_fits w64 l (omega (arith, h.1))

-- a local that holds one
pub multiplier_held : (l : ℤ) → Multiplier l → Multiplier (to_z w64 (of_z w64 l))
multiplier_held l h = rw (to_z-of_z w64 l (multiplier_fits l h)) h

-- ---- a multiplier times a number
pub times_size : (l x : ℤ) → Multiplier l → SFits w32 x → SizedTerm (l *ℤ x)
times_size l x h f = product_size l x h.1 (fits_size f)

pub times_fits : (l x : ℤ) → Multiplier l → SFits w32 x → SFits w64 (l *ℤ x)
times_fits l x h f = size_fits w64 (l *ℤ x) (omega (arith, times_size l x h f))

-- ---- two of these
pub term_fits : (a : ℤ) → SizedTerm a → SFits w64 a
term_fits a h = size_fits w64 a (omega arith)

pub both_size : (a b : ℤ) → SizedTerm a → SizedTerm b → SizedCoef (a +ℤ b)
both_size a b h k = omega (arith, sum_size a b h k)

pub both_fits : (a b : ℤ) → SizedTerm a → SizedTerm b → SFits w64 (a +ℤ b)
both_fits a b h k = size_fits w64 (a +ℤ b) (omega (arith, both_size a b h k))

pub weigh_is : (l x m y a b z : ℤ) → a ≡ l *ℤ x → b ≡ m *ℤ y → SizedTerm a → SizedTerm b → z ≡ a +ℤ b
    → (z ≡ weigh l x m y) × SizedCoef z
weigh_is l x m y a b z d e h k q =
    (q ∙ ap (λ (u : ℤ). u +ℤ b) d ∙ ap (λ (u : ℤ). (l *ℤ x) +ℤ u) e, subst (λ (u : ℤ). SizedCoef u) (sym q) (both_size a b h k))

-- what `weighed` says of numbers of 32 bits
pub weigh_heard : (l x m y a : ℤ) → a ≡ weigh l (to_z w32 (of_z w32 x)) m (to_z w32 (of_z w32 y)) → SFits w32 x → SFits w32 y
    → a ≡ weigh l x m y
weigh_heard l x m y a e f g = rw (to_z-of_z w32 x f, to_z-of_z w32 y g) at e

-- ---- such a sum times an end of a range
pub coef_fits : (a : ℤ) → SizedCoef a → SFits w64 a
coef_fits a h = size_fits w64 a (omega arith)

pub end_size : (a y : ℤ) → SizedCoef a → SFits w16 y → SizedMost (a *ℤ y)
end_size a y h f = product_size a y h (fits_size f)

pub end_fits : (a y : ℤ) → SizedCoef a → SFits w16 y → SFits w64 (a *ℤ y)
end_fits a y h f = size_fits w64 (a *ℤ y) (omega (arith, end_size a y h f))

-- at the end that gives the most
pub most_is : (a : ℤ) (r : Range) (t : Bool) (x y : ℤ) → y ≡ cond t r.high r.low → le_z (pos 0) a ≡ t → x ≡ a *ℤ y → SizedCoef a
    → SFits w16 y → (x ≡ best a r) × SizedMost x
most_is a r true x y h k e s f = (e ∙ rw (h, k) refl, subst (λ (u : ℤ). SizedMost u) (sym e) (end_size a y s f))
most_is a r false x y h k e s f = (e ∙ rw (h, k) refl, subst (λ (u : ℤ). SizedMost u) (sym e) (end_size a y s f))

pub most_fits : (a : ℤ) → SizedMost a → SFits w64 a
most_fits a h = size_fits w64 a (omega arith)

-- ---- the constant and the products, one after another
sum_moved : (c d e : ℤ) → c +ℤ (d +ℤ e) ≡ (c +ℤ d) +ℤ e
sum_moved c d e = rw (split c, split d, split e) (simp split-all (omega arith))

no_more : (c : ℤ) → c +ℤ pos 0 ≡ c
no_more c = rw (split c) (simp split-all (omega arith))

pub sum_fits : (i : ℕ) (x : ℤ) → i ≤ PARAMETERS → SizedSum i x → SFits w64 x
sum_fits i x h k = size_fits w64 x (omega arith)

-- what the products of n places from place i on add, at most
abbrev later : ℤ → List ℤ → ℤ → List ℤ → List Range → ℕ → ℕ → ℤ
later l cs m ds rs i n = best_sum (weigh_l l (places_from (pos 0) cs i n) m (places_from (pos 0) ds i n)) (drop i rs)

-- the sum of i products so far, and its size
pub record SumTo (l : ℤ) (e : Expr) (m : ℤ) (f : Expr) (rs : List Range) (i : ℕ) (x : ℤ) : Type 0 where
  pub is : x +ℤ later l e.coefs m f.coefs rs i (PARAMETERS - i) ≡ best_of (weigh_e l (affine e) m (affine f)) rs
  pub size : SizedSum i x

module _ (l : ℤ) (e : Expr) (m : ℤ) (f : Expr) (rs : List Range) where
  pub sum_start : (x : ℤ) → x ≡ weigh l e.constant m f.constant → SizedCoef x → SumTo l e m f rs 0 x
  unfolding best_of weigh_e
  sum_start x q h = record {
    is = ap (λ (z : ℤ). z +ℤ later l e.coefs m f.coefs rs 0 PARAMETERS) q;
    size = omega arith;
  }

  later_turn : (i j : ℕ) → i < length rs
      → later l e.coefs m f.coefs rs i (suc j)
      ≡ best (weigh l (get_or e.coefs i (pos 0)) m (get_or f.coefs i (pos 0))) (get_or rs i blank_range)
      +ℤ later l e.coefs m f.coefs rs (i + 1) j
  unfolding best_sum weigh_l
  later_turn i j h = rw (drop-cons rs i blank_range h, add-one) refl

  pub sum_turn : (i : ℕ) (x y : ℤ) → SumTo l e m f rs i x → i < PARAMETERS → length rs ≡ PARAMETERS
      → y ≡ best (weigh l (get_or e.coefs i (pos 0)) m (get_or f.coefs i (pos 0))) (get_or rs i blank_range) → SizedMost y
      → SumTo l e m f rs (i + 1) (x +ℤ y)
  sum_turn i x y s h k t z =
      let q : PARAMETERS - i ≡ suc (PARAMETERS - (i + 1)) = omega arith in
      let r = later l e.coefs m f.coefs rs (i + 1) (PARAMETERS - (i + 1)) in
      let g : i < length rs = omega arith in record {
        is = sym (sum_moved x y r)
            ∙ ap (λ (u : ℤ). x +ℤ (u +ℤ r)) t
            ∙ ap (λ (u : ℤ). x +ℤ u) (sym (later_turn i (PARAMETERS - (i + 1)) g))
            ∙ ap (λ (j : ℕ). x +ℤ later l e.coefs m f.coefs rs i j) (sym q)
            ∙ s.is;
        size = omega (arith, sum_size x y s.size z);
      }

  pub sum_all : (i : ℕ) (x : ℤ) → SumTo l e m f rs i x → i ≤ PARAMETERS → (i < PARAMETERS → ⊥)
      → (x ≡ best_of (weigh_e l (affine e) m (affine f)) rs) × SizedSum 4 x
  unfolding best_sum weigh_l
  sum_all i x s h g =
      let q : i ≡ PARAMETERS = omega arith in
      let t : SumTo l e m f rs PARAMETERS x = rw q at s in
      (sym (no_more x) ∙ t.is, t.size)

-- ---- a sum that is below 0 at its most, held as its bits
pub seen : (l m x : ℤ) (e f : Expr) (rs : List Range) → Multiplier l → Multiplier m → x ≡ best_of (weigh_e l (affine e) m (affine f)) rs
    → SizedSum 4 x → lt_z (to_z w64 (of_z w64 x)) (pos 0) ≡ true → Clash rs (affine e) (affine f)
seen l m x e f rs h k q z t =
    let s = sum_fits 4 x (omega arith) z in
    weigh_clash l m e f rs h.0 k.0 (lt_z_true (rw (to_z-of_z w64 x s, q) at t))
