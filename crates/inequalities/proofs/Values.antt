-- The value at a valuation, product by product.
use mathlib.Core.Path.{◌≡◌, refl, ap, sym, ◌∙◌}
use mathlib.Core.List.{List}
use Prim.Native.Nat.{ℕ, suc, ◌+◌, ◌-◌, ◌≤◌, ◌<◌}
use native.Mathlib.Numerals.{add-one}
use native.Mathlib.Omega.{arith}
use lib.IntN.{ℤ, pos, ◌+ℤ◌, ◌*ℤ◌}
use lib.ListN.{length, get_or, drop}
use lib.Seq.{drop-cons}
use mir.Syntax.{w32, w64}
use mir.Val.{SFits}
use Rattle.integer.specs.Product.{fits_size, size_fits, sum_size}
use Rattle.integer.specs.Split.{split, split-all}
use Rattle.expr.specs.Affine.{dot, value}
use Rattle.expr.specs.Records.{PARAMETERS, places_from, affine}
use Rattle.expr.specs.declared.number.Expr.{Expr}
use Rattle.inequalities.specs.Sizes.{Sized, SizedTo}

sum_moved : (c d e : ℤ) → c +ℤ (d +ℤ e) ≡ (c +ℤ d) +ℤ e
sum_moved c d e = rw (split c, split d, split e) (simp split-all (omega arith))

no_more : (c : ℤ) → c +ℤ pos 0 ≡ c
no_more c = rw (split c) (simp split-all (omega arith))

pub sum_fits : (i : ℕ) (x : ℤ) → i ≤ PARAMETERS → SizedTo i x → SFits w64 x
sum_fits i x h k = size_fits w64 x (omega arith)

-- what the products from place i on add
abbrev left : List ℤ → List ℤ → ℕ → ℤ
left l v i = dot (places_from (pos 0) l i (PARAMETERS - i)) (drop i v)

pub record ValueTo (e : Expr) (v : List ℤ) (i : ℕ) (x : ℤ) : Type 0 where
  pub is : x +ℤ left e.coefs v i ≡ value (affine e) v
  pub size : SizedTo i x

pub value_start : (e : Expr) (v : List ℤ) → SFits w32 e.constant → ValueTo e v 0 e.constant
unfolding value
value_start e v f = record { is = refl; size = omega (arith, fits_size f) }

left_turn : (l v : List ℤ) (i j : ℕ) → i < length v → PARAMETERS - i ≡ suc j
    → left l v i ≡ (get_or l i (pos 0) *ℤ get_or v i (pos 0)) +ℤ dot (places_from (pos 0) l (i + 1) j) (drop (i + 1) v)
unfolding dot
left_turn l v i j h e = rw (e, drop-cons v i (pos 0) h, add-one) refl

pub value_turn : (e : Expr) (v : List ℤ) (i : ℕ) (x y : ℤ) → ValueTo e v i x → i < PARAMETERS → length v ≡ PARAMETERS
    → y ≡ get_or e.coefs i (pos 0) *ℤ get_or v i (pos 0) → Sized y → ValueTo e v (i + 1) (x +ℤ y)
value_turn e v i x y s h m q z =
    let f : PARAMETERS - i ≡ suc (PARAMETERS - (i + 1)) = omega arith in
    let g : i < length v = omega arith in record {
      is = sym (sum_moved x y (left e.coefs v (i + 1)))
          ∙ ap (λ (u : ℤ). x +ℤ (u +ℤ left e.coefs v (i + 1))) q
          ∙ ap (λ (u : ℤ). x +ℤ u) (sym (left_turn e.coefs v i (PARAMETERS - (i + 1)) g f))
          ∙ s.is;
      size = omega (arith, sum_size x y s.size z);
    }

pub value_all : (e : Expr) (v : List ℤ) (i : ℕ) (x : ℤ) → ValueTo e v i x → i ≤ PARAMETERS → (i < PARAMETERS → ⊥)
    → (x ≡ value (affine e) v) × SizedTo 4 x
unfolding dot
value_all e v i x s h g =
    let q : i ≡ PARAMETERS = omega arith in
    let t : ValueTo e v PARAMETERS x = rw q at s in
    (sym (no_more x) ∙ t.is, t.size)
