-- The list of all valuations of some ranges has each of them once: with `valuations_all` and `valuations_inside`, to count its members is
-- to count the valuations in the ranges.
use Rattle.std.specs.Prelude.{◌≡◌, ◌⊎◌, ℕ, zero, suc, ℤ, pos, ◌+ℤ◌, ◌≤ℤ◌}
use Rattle.std.proofs.Common.{sym, ◌∙◌, inl, inr}
use Rattle.std.proofs.Math.Logic.{∥∥₁_elim}
use mathlib.Core.HLevel.{⊥_prop, ¬_prop}
use mathlib.Core.List.Memᴰ
use mathlib.Core.List.{List, [], ◌∷◌, map, Memᴰ, Nodup, Nodup-nil}
use mathlib.Core.List.Pairwise
use mathlib.Core.List.{Nodup-cons, Nodup-append, not-mem-nil}
use Rattle.std.specs.Int.Signed.{≤ℤ_refl}
use Rattle.integer.specs.Parts.{zs, +-parts, pos_parts}
use Rattle.valuations.specs.Valuations.{span, width, before, valuations}
use Rattle.expr.specs.declared.range.Range.{Range}

-- the statement
abbrev pub ValuationsOnce : Type 0
ValuationsOnce = (rs : List Range) → Nodup (valuations rs)

-- ---- its proof
step_up : (x y : ℤ) → (x +ℤ pos 1) ≤ℤ y → x ≤ℤ y
step_up x y h = omega (zs, +-parts x (pos 1), pos_parts 1)

too_low : (x : ℤ) → (x +ℤ pos 1) ≤ℤ x → ⊥
too_low x h = omega (zs, +-parts x (pos 1), pos_parts 1)

-- what stands before a list starts with one of the numbers
starts : (k : ℕ) (y : ℤ) (vs : List (List ℤ)) (v : List ℤ) → Memᴰ v (before (span y k) vs)
    → (x : ℤ) × (u : List ℤ) × (y ≤ℤ x) × (x ∷ u ≡ v)
unfolding before span
starts zero y vs v m = absurd (Memᴰ.not-nil m)
starts (suc k) y vs v m = by (Memᴰ.append_cases (map (λ (u : List ℤ). y ∷ u) vs) m) (starts k (y +ℤ pos 1) vs v)
  where
    by : Memᴰ v (map (λ (u : List ℤ). y ∷ u) vs) ⊎ Memᴰ v (before (span (y +ℤ pos 1) k) vs)
        → (Memᴰ v (before (span (y +ℤ pos 1) k) vs) → (x : ℤ) × (u : List ℤ) × ((y +ℤ pos 1) ≤ℤ x) × (x ∷ u ≡ v))
        → (x : ℤ) × (u : List ℤ) × (y ≤ℤ x) × (x ∷ u ≡ v)
    by (inl i) ih = let t = Memᴰ.of_map (λ (u : List ℤ). y ∷ u) vs i in (y, t.0, ≤ℤ_refl y, t.2)
    by (inr i) ih = let t = ih i in (t.0, t.1, step_up y t.0 t.2, t.3)

apart : (k : ℕ) (y : ℤ) (vs : List (List ℤ)) (v : List ℤ) → Memᴰ v (map (λ (u : List ℤ). y ∷ u) vs)
    → Memᴰ v (before (span (y +ℤ pos 1) k) vs) → ⊥
apart k y vs v a b =
    let t = Memᴰ.of_map (λ (u : List ℤ). y ∷ u) vs a in
    let (x, u, g, e) = starts k (y +ℤ pos 1) vs v b in
    let q : x ∷ u ≡ y ∷ t.0 = e ∙ sym t.2 in
    let o : x ≡ y = cc in
    too_low y (rw o at g)

before_once : (k : ℕ) (y : ℤ) (vs : List (List ℤ)) → Nodup vs → Nodup (before (span y k) vs)
unfolding before span
before_once zero y vs h = Nodup-nil
before_once (suc k) y vs h = Nodup-append.1 (
  Pairwise.map (λ a b. ¬_prop) (λ (u : List ℤ). y ∷ u) (λ a b d e. d (cc)) h,
  before_once k (y +ℤ pos 1) vs h,
  λ v a b. ∥∥₁_elim a ⊥_prop (λ i. ∥∥₁_elim b ⊥_prop (λ j. apart k y vs v i j)),
)

pub valuations_once : ValuationsOnce
unfolding valuations
valuations_once [] = Nodup-cons.1 (λ m. not-mem-nil m, Nodup-nil)
valuations_once (r ∷ rs) = before_once (width r) r.low (valuations rs) (valuations_once rs)
