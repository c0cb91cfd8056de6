-- The lines, one after another.
use mathlib.Core.Path.{◌≡◌, refl, sym, ap, ◌∙◌}
use mathlib.Core.Bool.{Bool, true, false}
use mathlib.Core.List.{List}
use Prim.Native.Nat.{ℕ, zero, suc, ◌+◌, ◌-◌, ◌*◌, ◌≤◌, ◌<◌}
use native.Mathlib.Numerals.{add-one}
use native.Mathlib.Omega.{arith}
use lib.Dec.{ltb}
use lib.IntN.{ℤ, pos, ◌+ℤ◌, ◌*ℤ◌}
use lib.ListN.{length, get_or, set, length-set}
use lib.Seq.{get_or-set_same, get_or-set_other}
use borrow.Author.Tests.{ltb-true, ltb-false}
use Rattle.expr.specs.Records.{PARAMETERS, places_from}
use Rattle.expr.specs.declared.range.Range.{Range}
use Rattle.inequalities.specs.Flat.{expr_at}
use Rattle.intervals.specs.Interval.{interval}
use Rattle.corners.specs.Boxes.{point_at}
use Rattle.valuations.specs.SearchLaws.{total}
use Rattle.valuations.specs.Totals.{total_split, total_end}
use Rattle.valuations.specs.Valuations.{width}
use Rattle.rows.specs.Lines.{ValueOf, LineOf, line_at, row_from}
use Rattle.rows.specs.declared.lines.Line.{Line}

-- a coefficient of an inequality
places_at_lem : (l : List ℤ) (n i w : ℕ) → w < n → get_or (places_from (pos 0) l i n) w (pos 0) ≡ get_or l (i + w) (pos 0)
places_at_lem l zero i w h = absurd (omega arith)
places_at_lem l (suc n) i zero h = ap (λ (j : ℕ). get_or l j (pos 0)) (omega arith)
places_at_lem l (suc n) i (suc w) h =
    let same : suc i + w ≡ i + suc w = omega arith in
    places_at_lem l n (suc i) w (omega arith) ∙ ap (λ (j : ℕ). get_or l j (pos 0)) same

pub line_of : (cs flat v : List ℤ) (w t k : ℕ) → w < PARAMETERS → t < PARAMETERS → ValueOf (expr_at flat k) v (get_or cs k (pos 0))
    → LineOf (expr_at flat k) v w t (line_at cs flat w t k)
unfolding expr_at
line_of cs flat v w t k h g e = record {
  constant = e.same;
  first = sym (places_at_lem flat PARAMETERS (5 * k + 1) w h);
  second = sym (places_at_lem flat PARAMETERS (5 * k + 1) t g);
}

-- ---- one value more
pub long_set : (l : List ℤ) (k n : ℕ) (x : ℤ) → length l ≡ n → length (set l k x) ≡ n
long_set l k n x h = length-set l k x ∙ h

pub values_more : (flat v : List ℤ) (l : List ℤ) (k : ℕ) (x : ℤ) → k < length l
    → ((j : ℕ) → j < k → ValueOf (expr_at flat j) v (get_or l j (pos 0))) → ValueOf (expr_at flat k) v x
    → (j : ℕ) → j < k + 1 → ValueOf (expr_at flat j) v (get_or (set l k x) j (pos 0))
values_more flat v l k x h g e j i = by (ltb j k) refl
  where
    by : (b : Bool) → ltb j k ≡ b → ValueOf (expr_at flat j) v (get_or (set l k x) j (pos 0))
    by true f = rw (get_or-set_other l k j x (pos 0) (λ z. omega (arith, ltb-true))) (g j (omega (arith, ltb-true)))
    by false f =
        let same : j ≡ k = omega (arith, ltb-false) in
        rw (same, get_or-set_same l k x (pos 0) h) e

-- ---- a row, line by line
pub row_start : (l : ℕ → Line) (n : ℕ) (x : ℤ) (s : Range) → row_from l 0 (n - 0) x s ≡ row_from l 0 n x s
row_start l n x s =
    let all : n - 0 ≡ n = omega arith in
    ap (λ (m : ℕ). row_from l 0 m x s) all

-- (the numbers of line k in locals that hold them)
pub row_turn : (l : ℕ → Line) (n k : ℕ) (x : ℤ) (r y s : Range) {a b d : ℤ} → k < n
    → a ≡ (l k).constant → b ≡ (l k).first → d ≡ (l k).second → y ≡ interval r (a +ℤ (b *ℤ x)) d
    → row_from l k (n - k) x r ≡ s → row_from l (k + 1) (n - (k + 1)) x y ≡ s
unfolding row_from
row_turn l n k x r y s h ea eb ed e q =
    let one : n - k ≡ suc (n - (k + 1)) = omega arith in
    ap (λ (z : Range). row_from l (k + 1) (n - (k + 1)) x z) (e ∙ (λ i. interval r (ea i +ℤ (eb i *ℤ x)) (ed i)))
    ∙ ap (λ (j : ℕ). row_from l j (n - (k + 1)) x (interval r ((l k).constant +ℤ ((l k).first *ℤ x)) (l k).second)) (add-one k)
    ∙ ap (λ (m : ℕ). row_from l k m x r) (sym one) ∙ q

pub row_done : (l : ℕ → Line) (n k : ℕ) (x : ℤ) (r s : Range) → n ≤ k → row_from l k (n - k) x r ≡ s → r ≡ s
unfolding row_from
row_done l n k x r s h q =
    let none : n - k ≡ 0 = omega arith in
    ap (λ (m : ℕ). row_from l k m x r) (sym none) ∙ q

-- ---- the sum of the rows' widths
abbrev pub row_width : (ℕ → Line) → ℕ → Range → ℤ → ℕ
row_width l n s = λ (x : ℤ). width (row_from l 0 n x s)

-- (its name, where a local has that of `total`)
abbrev pub sum_of : (ℤ → ℕ) → ℤ → ℕ → ℕ
sum_of = total

pub sum_turn : (l : ℕ → Line) (n : ℕ) (s : Range) (r : Range) (m i t u : ℕ) (p y : Range) {x : ℤ} → i < m → x ≡ p.low
    → p ≡ point_at r i → y ≡ row_from l 0 n x s → u ≡ width y
    → t + total (row_width l n s) (r.low +ℤ pos i) (m - i) ≡ total (row_width l n s) r.low m
    → t + u + total (row_width l n s) (r.low +ℤ pos (i + 1)) (m - (i + 1)) ≡ total (row_width l n s) r.low m
sum_turn l n s r m i t u p y {x} h ex ep ey eu k =
    let at : x ≡ r.low +ℤ pos i = ex ∙ ap (λ (q : Range). q.low) ep in
    let here : u ≡ row_width l n s (r.low +ℤ pos i) = eu ∙ ap width ey ∙ ap (row_width l n s) at in
    omega (arith, here, total_split (row_width l n s) r.low m i h, k)

pub sum_done : (f : ℤ → ℕ) (x : ℤ) (m i t u : ℕ) → m ≤ i → t + total f (x +ℤ pos i) (m - i) ≡ u → t ≡ u
sum_done f x m i t u h k = omega (arith, total_end f x m i h)
