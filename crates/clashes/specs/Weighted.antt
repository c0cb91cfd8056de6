-- A weighted sum of two inequalities: where it is below 0 throughout a box, no valuation of the box meets both.
use Rattle.std.specs.Prelude.{◌≡◌, refl, Bool, true, false, ℤ, pos, ◌+ℤ◌, ◌*ℤ◌, ◌≤ℤ◌, ◌<ℤ◌}
use Rattle.std.proofs.Math.Path.{ap}
use Rattle.std.proofs.Common.{◌∙◌, arith}
use mathlib.Core.List.{List, [], ◌∷◌}
use Rattle.std.proofs.Math.Option.{none}
use Prim.Native.Nat.{ℕ, zero, suc, ◌<◌}
use Rattle.integer.specs.Product.{*ℤ-assoc, *ℤ-distribr, *ℤ-mono-nonneg}
use Rattle.integer.specs.Split.{split, split-all}
use Rattle.expr.specs.Affine.{Affine, dot, value}
use Rattle.expr.specs.Ranges.{Inside}
use Rattle.expr.specs.Records.{PARAMETERS, places_from, four, affine}
use Rattle.expr.specs.declared.number.Expr.{Expr}
use Rattle.expr.specs.declared.range.Range.{Range}
use Rattle.inequalities.specs.Flat.{expr_at, exprs_in}
use Rattle.narrowing.specs.Best.{best_of, best_sum_most}
use Rattle.systems.specs.BoxLaws.{met_at, first_nothing}
use Rattle.valuations.specs.Valuations.{satisfies, first}

-- no valuation inside the ranges meets two inequalities
pub record Clash (rs : List Range) (e f : Affine) : Type 0 where
  pub none : (v : List ℤ) → Inside v rs → pos 0 ≤ℤ value e v → pos 0 ≤ℤ value f v → ⊥

-- l·x + m·y
abbrev pub weigh : ℤ → ℤ → ℤ → ℤ → ℤ
weigh l x m y = (l *ℤ x) +ℤ (m *ℤ y)

-- the same of two lists of coefficients, place by place
unfoldable pub weigh_l : ℤ → List ℤ → ℤ → List ℤ → List ℤ
weigh_l l [] m ds = []
weigh_l l (c ∷ cs) m [] = []
weigh_l l (c ∷ cs) m (d ∷ ds) = weigh l c m d ∷ weigh_l l cs m ds

-- l·e + m·f
unfoldable pub weigh_e : ℤ → Affine → ℤ → Affine → Affine
weigh_e l e m f = record { constant = weigh l e.constant m f.constant; coefs = weigh_l l e.coefs m f.coefs }

-- ---- its value is the weighted sum of the values
module _ (l m : ℤ) where
  nothing : pos 0 ≡ weigh l (pos 0) m (pos 0)
  nothing = rw (split l, split m) (simp split-all (omega arith))

  weigh_both : (c d a b : ℤ) → weigh l c m d +ℤ weigh l a m b ≡ weigh l (c +ℤ a) m (d +ℤ b)
  weigh_both c d a b = rw (split l, split m, split c, split d, split a, split b) (simp split-all (omega arith))

  weigh_step : (c d x a b : ℤ) → (weigh l c m d *ℤ x) +ℤ weigh l a m b ≡ weigh l ((c *ℤ x) +ℤ a) m ((d *ℤ x) +ℤ b)
  weigh_step c d x a b =
      rw (*ℤ-distribr (l *ℤ c) (m *ℤ d) x, *ℤ-assoc l c x, *ℤ-assoc m d x) (weigh_both (c *ℤ x) (d *ℤ x) a b)

  weigh_dot : (cs ds : List ℤ) (n i : ℕ) (v : List ℤ)
      → dot (weigh_l l (places_from (pos 0) cs i n) m (places_from (pos 0) ds i n)) v
      ≡ weigh l (dot (places_from (pos 0) cs i n) v) m (dot (places_from (pos 0) ds i n) v)
  unfolding dot weigh_l
  weigh_dot cs ds zero i v = nothing
  weigh_dot cs ds (suc n) i [] = nothing
  weigh_dot cs ds (suc n) i (x ∷ v) =
      rw (weigh_dot cs ds n (suc i) v)
      (weigh_step _ _ x (dot (places_from (pos 0) cs (suc i) n) v) (dot (places_from (pos 0) ds (suc i) n) v))

  weigh_value : (e f : Expr) (v : List ℤ)
      → value (weigh_e l (affine e) m (affine f)) v ≡ weigh l (value (affine e) v) m (value (affine f) v)
  unfolding value weigh_e
  weigh_value e f v =
      ap (λ (z : ℤ). weigh l e.constant m f.constant +ℤ z) (weigh_dot e.coefs f.coefs PARAMETERS 0 v)
      ∙ weigh_both e.constant f.constant (dot (four e.coefs) v) (dot (four f.coefs) v)

-- ---- it is at least 0 where both are, its multipliers being so
best_value : (e : Affine) (v : List ℤ) (rs : List Range) → Inside v rs → value e v ≤ℤ best_of e rs
unfolding best_of value
best_value e v rs i = raised e.constant _ _ (best_sum_most e.coefs v rs i)
  where
    raised : (c x y : ℤ) → x ≤ℤ y → (c +ℤ x) ≤ℤ (c +ℤ y)
    raised c x y = rw (split c, split x, split y) (simp split-all (omega arith))

weigh_least : (l x m y : ℤ) → pos 0 ≤ℤ l → pos 0 ≤ℤ m → pos 0 ≤ℤ x → pos 0 ≤ℤ y → pos 0 ≤ℤ weigh l x m y
weigh_least l x m y h g i j = least (l *ℤ x) (m *ℤ y) (at_zero l (*ℤ-mono-nonneg l h i)) (at_zero m (*ℤ-mono-nonneg m g j))
  where
    at_zero : (k : ℤ) {z : ℤ} → (k *ℤ pos 0) ≤ℤ z → pos 0 ≤ℤ z
    at_zero k {z} = rw (split k, split z) (simp split-all (omega arith))

    least : (a b : ℤ) → pos 0 ≤ℤ a → pos 0 ≤ℤ b → pos 0 ≤ℤ (a +ℤ b)
    least a b = rw (split a, split b) (simp split-all (omega arith))

pub weigh_clash : (l m : ℤ) (e f : Expr) (rs : List Range) → pos 0 ≤ℤ l → pos 0 ≤ℤ m
    → best_of (weigh_e l (affine e) m (affine f)) rs <ℤ pos 0 → Clash rs (affine e) (affine f)
weigh_clash l m e f rs h g k = record {
  none = λ v i a b. below _ _ (rw (weigh_value l m e f v) (weigh_least l _ m _ h g a b))
      (best_value (weigh_e l (affine e) m (affine f)) v rs i) k;
}
  where
    below : (x y : ℤ) → pos 0 ≤ℤ x → x ≤ℤ y → y <ℤ pos 0 → ⊥
    below x y = rw (split x, split y) (simp split-all (omega arith))

-- ---- two of the inequalities of a flat list
pub clash_nothing : (l : List ℤ) (n j k : ℕ) (rs : List Range) → j < n → k < n → Clash rs (expr_at l j) (expr_at l k)
    → first rs (exprs_in l n) ≡ none
clash_nothing l n j k rs h g c =
    first_nothing rs (exprs_in l n) (λ v i. by v i (satisfies (exprs_in l n) v) refl)
  where
    by : (v : List ℤ) → Inside v rs → (b : Bool) → satisfies (exprs_in l n) v ≡ b → b ≡ false
    by v i true e = absurd (c.none v i (met_at l n j v e h) (met_at l n k v e g))
    by v i false e = refl
