-- A constant and a product for each parameter fit the wide width.
use mathlib.Core.Path.{◌≡◌, refl, ap, ◌∙◌}
use mathlib.Core.Bool.{Bool, false}
use Prim.Native.Nat.{ℕ, zero, suc, ◌+◌, ◌*◌, ◌≤◌, ◌<◌}
use lib.IntN.{ℤ, pos, ◌+ℤ◌, ◌*ℤ◌}
use lib.ListN.{get_or}
use mir.Syntax.{w16, w32, w64}
use mir.Val.{SFits, to_z, of_z}
use mir.ValLaws.{to_z-of_z}
use native.Mathlib.Numerals.{add-one}
use native.Mathlib.Omega.{arith}
use Rattle.integer.specs.Parts.{p, n}
use Rattle.integer.specs.Product.{fits_size, size_fits, sum_size, product_size}
use Rattle.integer.specs.Split.{split, split-all}
use Rattle.weight.specs.declared.Weight.{Weight}
use Rattle.expr.specs.Affine.{value, dot}
use Rattle.expr.specs.Records.{PARAMETERS, affine, point}
use Rattle.expr.specs.declared.number.Expr.{Expr}
use Rattle.expr.specs.declared.number.Valuation.{Valuation}

-- a constant and products, one after another
unfoldable pub sum_to : Expr → Valuation → ℕ → ℤ
sum_to e v zero = e.constant
sum_to e v (suc i) = sum_to e v i +ℤ (get_or e.coefs i (pos 0) *ℤ get_or v.numbers i (pos 0))

-- what a number of 32 bits and i products of 32 and 16 bits can make
abbrev pub Held : ℕ → ℤ → Type 0
Held i x = p x + n x ≤ 2147483648 + i * 70368744177664

pub held_fits : (i : ℕ) (x : ℤ) → i ≤ PARAMETERS → Held i x → SFits w64 x
held_fits i x h k = size_fits w64 x (omega arith)

held_more : (i : ℕ) (x y : ℤ) → Held i x → p y + n y ≤ 70368744177664 → Held (suc i) (x +ℤ y)
held_more i x y h k = omega (arith, sum_size x y h k)

-- the sum so far, and its size
pub record SumTo (e : Expr) (v : Valuation) (i : ℕ) (x : ℤ) : Type 0 where
  pub is : x ≡ sum_to e v i
  pub size : Held i x

pub sum_start : (e : Expr) (v : Valuation) → SFits w32 e.constant → SumTo e v 0 e.constant
unfolding sum_to
sum_start e v f = record { is = refl; size = omega (arith, fits_size f) }

pub sum_turn : (e : Expr) (v : Valuation) (i : ℕ) (x y : ℤ) → SumTo e v i x → SFits w32 (get_or e.coefs i (pos 0))
    → SFits w16 (get_or v.numbers i (pos 0)) → y ≡ get_or e.coefs i (pos 0) *ℤ get_or v.numbers i (pos 0)
    → SumTo e v (i + 1) (x +ℤ y)
unfolding sum_to
sum_turn e v i x y s f g h =
    let z = product_size (get_or e.coefs i (pos 0)) (get_or v.numbers i (pos 0)) (fits_size f) (fits_size g) in
    rw (add-one, h) (record { is = rw s.is refl; size = held_more i x _ s.size z })

-- the same of the code's sum, once it is stored
pub turn_fits : (e : Expr) (v : Valuation) (i : ℕ) (x y : ℤ) → i < PARAMETERS → SumTo e v (i + 1) (x +ℤ y) → SFits w64 (x +ℤ y)
turn_fits e v i x y l s = held_fits (i + 1) (x +ℤ y) (omega arith) s.size

pub turn_stored : (e : Expr) (v : Valuation) (i : ℕ) (x y : ℤ) → i < PARAMETERS → SumTo e v (i + 1) (x +ℤ y)
    → SumTo e v (i + 1) (to_z w64 (of_z w64 (x +ℤ y)))
turn_stored e v i x y l s = rw (to_z-of_z w64 (x +ℤ y) (turn_fits e v i x y l s)) s

four_sum : (c x y z u : ℤ) → (((c +ℤ x) +ℤ y) +ℤ z) +ℤ u ≡ c +ℤ (x +ℤ (y +ℤ (z +ℤ (u +ℤ pos 0))))
four_sum c x y z u = rw (split c, split x, split y, split z, split u) (simp split-all (omega arith))

pub sum_all : (e : Expr) (v : Valuation) (i : ℕ) (x : ℤ) → SumTo e v i x → i ≤ PARAMETERS → (i < PARAMETERS → ⊥)
    → x ≡ value (affine e) (point v)
unfolding sum_to value dot
sum_all e v i x s l h =
    let k : i ≡ PARAMETERS = omega arith in
    s.is
    ∙ ap (λ (j : ℕ). sum_to e v j) k
    ∙ four_sum e.constant (get_or e.coefs 0 (pos 0) *ℤ get_or v.numbers 0 (pos 0))
    (get_or e.coefs 1 (pos 0) *ℤ get_or v.numbers 1 (pos 0)) (get_or e.coefs 2 (pos 0) *ℤ get_or v.numbers 2 (pos 0))
    (get_or e.coefs 3 (pos 0) *ℤ get_or v.numbers 3 (pos 0))

-- the code's record of a weight from its number
pub weight_path : {s t : Bool} {x y : ℤ} → s ≡ t → x ≡ y
    → ◌≡◌ {A = Weight} (record { none = false; strict = s; value = x }) (record { none = false; strict = t; value = y })
weight_path d e = λ i. record { none = false; strict = d i; value = e i }
