-- Two inequalities of opposite coefficients: those that no valuation meets both of, and the two halves of a split.
use Rattle.std.specs.Prelude.{◌≡◌, refl, List, [], ◌∷◌, ℕ, zero, suc, ◌+◌, ◌<◌, ℤ, pos, negsuc, ◌+ℤ◌, ◌*ℤ◌, get_or, ◌≤ℤ◌, ◌<ℤ◌}
use Rattle.std.proofs.Common.{sym, ap, ◌∙◌, arith}
use Rattle.std.specs.Int.Signed.{le_z, lt_z}
use Rattle.integer.specs.Bools.{same_test}
use Rattle.integer.specs.Order.{le_z_true, lt_z_true, true_le_z, true_lt_z}
use Rattle.integer.specs.Product.{*ℤ-distribr}
use Rattle.integer.specs.Split.{split, split-all}
use Rattle.expr.specs.Affine.{Affine, dot, value}
use Rattle.expr.specs.Records.{PARAMETERS, places_from, four, affine}
use Rattle.expr.specs.declared.number.Expr.{Expr}

-- no valuation meets two inequalities
pub record Apart (e f : Affine) : Type 0 where
  pub none : (v : List ℤ) → pos 0 ≤ℤ value e v → pos 0 ≤ℤ value f v → ⊥

-- each valuation meets one of two inequalities, and not both
pub record Halves (e f : Affine) : Type 0 where
  pub one : (v : List ℤ) → le_z (pos 0) (value f v) ≡ lt_z (value e v) (pos 0)

-- ---- such a pair is one
cancelled : (x y u d e : ℤ) → x +ℤ y ≡ pos 0 → d +ℤ e ≡ pos 0 → ((x *ℤ u) +ℤ d) +ℤ ((y *ℤ u) +ℤ e) ≡ pos 0
cancelled x y u d e h k =
    moved (x *ℤ u) d (y *ℤ u) e ∙ ap (λ (z : ℤ). z +ℤ (d +ℤ e)) (sym (*ℤ-distribr x y u) ∙ ap (λ (z : ℤ). z *ℤ u) h)
    ∙ ap (λ (z : ℤ). (pos 0 *ℤ u) +ℤ z) k ∙ none_of u
  where
    moved : (a b c d : ℤ) → (a +ℤ b) +ℤ (c +ℤ d) ≡ (a +ℤ c) +ℤ (b +ℤ d)
    moved a b c d = rw (split a, split b, split c, split d) (simp split-all (omega arith))

    none_of : (x : ℤ) → (pos 0 *ℤ x) +ℤ pos 0 ≡ pos 0
    none_of x = rw (split x) (simp split-all (omega arith))

-- the first n numbers of two lists are opposite
abbrev pub Opposite : List ℤ → List ℤ → ℕ → Type 0
Opposite l k n = (m : ℕ) → m < n → get_or l m (pos 0) +ℤ get_or k m (pos 0) ≡ pos 0

opposite_dot : (l k : List ℤ) (n a : ℕ) (v : List ℤ)
    → ((m : ℕ) → m < n → get_or l (a + m) (pos 0) +ℤ get_or k (a + m) (pos 0) ≡ pos 0)
    → dot (places_from (pos 0) l a n) v +ℤ dot (places_from (pos 0) k a n) v ≡ pos 0
unfolding dot
opposite_dot l k zero a v h = refl
opposite_dot l k (suc n) a [] h = refl
opposite_dot l k (suc n) a (x ∷ v) h =
    let i : a + 0 ≡ a = omega arith in
    cancelled (get_or l a (pos 0)) (get_or k a (pos 0)) x (dot (places_from (pos 0) l (suc a) n) v) (dot (places_from (pos 0) k (suc a) n) v)
    (rw i at (h 0 (omega arith))) (opposite_dot l k n (suc a) v (λ m g. later m (h (suc m) (omega arith))))
  where
    later : (m : ℕ) → get_or l (a + suc m) (pos 0) +ℤ get_or k (a + suc m) (pos 0) ≡ pos 0
        → get_or l (suc a + m) (pos 0) +ℤ get_or k (suc a + m) (pos 0) ≡ pos 0
    later m q =
        let i : a + suc m ≡ suc a + m = omega arith in
        rw i at q

-- the sum of the two at a valuation
opposite_sum : (e f : Expr) → Opposite e.coefs f.coefs PARAMETERS → (v : List ℤ)
    → value (affine e) v +ℤ value (affine f) v ≡ e.constant +ℤ f.constant
unfolding value
opposite_sum e f h v =
    left_over e.constant f.constant (dot (four e.coefs) v) (dot (four f.coefs) v)
    (opposite_dot e.coefs f.coefs PARAMETERS 0 v (λ m q. started m (h m q)))
  where
    started : (m : ℕ) → get_or e.coefs m (pos 0) +ℤ get_or f.coefs m (pos 0) ≡ pos 0
        → get_or e.coefs (0 + m) (pos 0) +ℤ get_or f.coefs (0 + m) (pos 0) ≡ pos 0
    started m q =
        let i : 0 + m ≡ m = omega arith in
        rw i q

    left_over : (c d x y : ℤ) → x +ℤ y ≡ pos 0 → (c +ℤ x) +ℤ (d +ℤ y) ≡ c +ℤ d
    left_over c d x y h = moved c x d y ∙ ap (λ (z : ℤ). (c +ℤ d) +ℤ z) h ∙ none_more (c +ℤ d)
      where
        moved : (a b c d : ℤ) → (a +ℤ b) +ℤ (c +ℤ d) ≡ (a +ℤ c) +ℤ (b +ℤ d)
        moved a b c d = rw (split a, split b, split c, split d) (simp split-all (omega arith))

        none_more : (z : ℤ) → z +ℤ pos 0 ≡ z
        none_more z = rw (split z) (simp split-all (omega arith))

pub opposite_apart : (e f : Expr) → Opposite e.coefs f.coefs PARAMETERS → (e.constant +ℤ f.constant) <ℤ pos 0
    → Apart (affine e) (affine f)
opposite_apart e f h g = record {
  none = λ v a b. below (value (affine e) v) (value (affine f) v) a b (rw (sym (opposite_sum e f h v)) at g);
}
  where
    below : (x y : ℤ) → pos 0 ≤ℤ x → pos 0 ≤ℤ y → (x +ℤ y) <ℤ pos 0 → ⊥
    below x y = rw (split x, split y) (simp split-all (omega arith))

pub opposite_halves : (e f : Expr) → Opposite e.coefs f.coefs PARAMETERS → negsuc 0 ≤ℤ (e.constant +ℤ f.constant)
    → (e.constant +ℤ f.constant) <ℤ pos 0 → Halves (affine e) (affine f)
opposite_halves e f h l g = record {
  one = λ v. same_test (le_z (pos 0) (value (affine f) v)) (lt_z (value (affine e) v) (pos 0))
      (λ a. true_lt_z (above (value (affine e) v) (value (affine f) v) (le_z_true a) (rw (sym (opposite_sum e f h v)) at g)))
      (λ a. true_le_z (under (value (affine e) v) (value (affine f) v) (lt_z_true a) (rw (sym (opposite_sum e f h v)) at l)));
}
  where
    above : (x y : ℤ) → pos 0 ≤ℤ y → (x +ℤ y) <ℤ pos 0 → x <ℤ pos 0
    above x y = rw (split x, split y) (simp split-all (omega arith))

    under : (x y : ℤ) → x <ℤ pos 0 → negsuc 0 ≤ℤ (x +ℤ y) → pos 0 ≤ℤ y
    under x y = rw (split x, split y) (simp split-all (omega arith))
