-- A box in two, by one of its ranges: each half has fewer numbers, and what is first in the lower half is first of all.
use Rattle.std.specs.Prelude.{◌≡◌, refl, List, [], ◌∷◌, ℕ, zero, suc, ◌+◌, ◌≤◌, ◌<◌, ℤ, pos, ◌+ℤ◌, length, get_or, set, ◌≤ℤ◌, ◌<ℤ◌}
use Rattle.std.proofs.Common.{sym, ap, ◌∙◌, arith, length-set, get_or-set_same, set-set}
use Rattle.std.proofs.Math.Option.{Option, none, some}
use Rattle.std.proofs.Math.IntN.{+ℤ_idr}
use Rattle.std.specs.Int.Signed.{≤ℤ_refl}
use Rattle.integer.specs.Order.{≤ℤ-trans}
use Rattle.integer.specs.Split.{split, split-all}
use Rattle.expr.specs.Affine.{Affine}
use Rattle.expr.specs.Ranges.{In}
use Rattle.expr.specs.Records.{blank_range}
use Rattle.expr.specs.declared.range.Range.{Range}
use Rattle.corners.specs.Boxes.{point_of, Points}
use Rattle.narrowing.specs.Cut.{Within}
use Rattle.systems.specs.Boxes.{Narrows}
use Rattle.systems.specs.BoxLaws.{first_place, points_within, within_set}
use Rattle.valuations.specs.SearchLaws.{first_over, or_else, width_in}
use Rattle.valuations.specs.Valuations.{first, width}
use Rattle.widths.specs.Halves.{lower_of, upper_of, lower_in, upper_in, width_lower, width_upper}

-- how many numbers the ranges have together
unfoldable pub numbers_of : List Range → ℕ
numbers_of [] = 0
numbers_of (r ∷ rs) = width r + numbers_of rs

-- ---- they get fewer
less_by_places : (l m : ℤ) (a b : ℕ) → l ≤ℤ m → (m +ℤ pos a) <ℤ (l +ℤ pos b) → a < b
less_by_places l m a b = rw (split l, split m) (simp split-all (omega arith))

last_member : (r : Range) (k : ℕ) → width r ≡ suc k → In (r.low +ℤ pos k) r
last_member r k e = (width_in r (r.low +ℤ pos k)).1 (up r.low k, rw e (under r.low k))
  where
    up : (l : ℤ) (k : ℕ) → l ≤ℤ (l +ℤ pos k)
    up l k = rw (split l) (simp split-all (omega arith))

    under : (l : ℤ) (k : ℕ) → (l +ℤ pos k) <ℤ (l +ℤ pos (suc k))
    under l k = rw (split l) (simp split-all (omega arith))

width_within : (s r : Range) → ((x : ℤ) → In x s → In x r) → width s ≤ width r
width_within s r h = by (width s) refl
  where
    by : (n : ℕ) → width s ≡ n → n ≤ width r
    by zero e = omega arith
    by (suc k) e =
        let i = h (s.low +ℤ pos k) (last_member s k e) in
        let low : In s.low s =
        record { least = ≤ℤ_refl s.low; most = ≤ℤ-trans (last_member s k e).least (last_member s k e).most } in
        less_by_places r.low s.low k (width r) (h s.low low).least ((width_in r (s.low +ℤ pos k)).0 i).1

pub numbers_within : (ss rs : List Range) → Within ss rs → numbers_of ss ≤ numbers_of rs
unfolding numbers_of
numbers_within [] [] h = omega arith
numbers_within [] (r ∷ rs) h = absurd h
numbers_within (s ∷ ss) [] h = absurd h
numbers_within (s ∷ ss) (r ∷ rs) h = omega (arith, width_within s r h.0, numbers_within ss rs h.1)

numbers_set : (w : ℕ) (rs : List Range) (s : Range) → w < length rs → width s < width (get_or rs w blank_range)
    → numbers_of (set rs w s) < numbers_of rs
unfolding numbers_of
numbers_set w [] s h k = absurd (omega arith)
numbers_set zero (r ∷ rs) s h k = omega arith
numbers_set (suc w) (r ∷ rs) s h k = omega (arith, numbers_set w rs s (omega arith) k)

-- both halves of a narrower box have fewer
module _ (es : List Affine) (rs cs : List Range) (h : Narrows es rs cs) (w n : ℕ) (r : Range) (at-w : r ≡ get_or cs w blank_range)
    (few : 0 < n) (more : n < width r) (l : w < length cs) where
  pub fewer_lower : numbers_of (set cs w (lower_of r n)) < numbers_of rs
  fewer_lower =
      omega
      (arith, numbers_set w cs (lower_of r n) l (rw (sym at-w, width_lower r n few) more), numbers_within cs rs h.within)

  pub fewer_upper : numbers_of (set cs w (upper_of r n)) < numbers_of rs
  fewer_upper =
      let u : width (upper_of r n) < width r = omega (arith, width_upper r n (omega arith)) in
      omega (arith, numbers_set w cs (upper_of r n) l (rw (sym at-w) u), numbers_within cs rs h.within)

-- ---- the first of both halves
else_moved : (a b c : Option (List ℤ)) → or_else (or_else a b) c ≡ or_else a (or_else b c)
else_moved none b c = refl
else_moved (some v) b c = refl

over_parts : (f : ℤ → Option (List ℤ)) (a b : ℕ) (x : ℤ) → first_over f x (a + b) ≡ or_else (first_over f x a) (first_over f (x +ℤ pos a) b)
unfolding first_over
over_parts f zero b x =
    let e : 0 + b ≡ b = omega arith in
    rw (e, +ℤ_idr x) refl
over_parts f (suc a) b x =
    let e : suc a + b ≡ suc (a + b) = omega arith in
    ap (first_over f x) e
    ∙ ap (or_else (f x)) (over_parts f a b (x +ℤ pos 1))
    ∙ ap (λ (y : ℤ). or_else (f x) (or_else (first_over f (x +ℤ pos 1) a) (first_over f y b))) (next x a)
    ∙ sym (else_moved (f x) (first_over f (x +ℤ pos 1) a) (first_over f (x +ℤ pos (suc a)) b))
  where
    next : (x : ℤ) (a : ℕ) → (x +ℤ pos 1) +ℤ pos a ≡ x +ℤ pos (suc a)
    next x a = rw (split x) (simp split-all (omega arith))

over_same : (f g : ℤ → Option (List ℤ)) (n : ℕ) (x : ℤ) → ((y : ℤ) → f y ≡ g y) → first_over f x n ≡ first_over g x n
unfolding first_over
over_same f g zero x h = refl
over_same f g (suc n) x h = rw (h x, over_same f g n (x +ℤ pos 1) h) refl

module _ (es : List Affine) (cs : List Range) (w n : ℕ) (r : Range) (at-w : r ≡ get_or cs w blank_range) (few : 0 < n) (more : n < width r)
    (l : w < length cs) (p : Points w cs) where
  -- the first of the box with another range at w that lies in that one
  part : (s : Range) → ((x : ℤ) → In x s → In x r)
      → first (set cs w s) es ≡ first_over (λ (x : ℤ). first (set cs w (point_of x)) es) s.low (width s)
  part s h =
      let q : Points w (set cs w s) = points_within w cs (set cs w s) (within_set w cs s (λ x i. rw at-w at (h x i))) p in
      first_place w (set cs w s) es q (rw (length-set cs w s) l)
      ∙ ap (λ (z : Range). first_over (λ (x : ℤ). first (set (set cs w s) w (point_of x)) es) z.low (width z))
      (get_or-set_same cs w s blank_range l)
      ∙ over_same (λ (x : ℤ). first (set (set cs w s) w (point_of x)) es) (λ (x : ℤ). first (set cs w (point_of x)) es) (width s) s.low
      (λ y. ap (λ (z : List Range). first z es) (set-set cs w s (point_of y)))

  pub first_parts : first cs es ≡ or_else (first (set cs w (lower_of r n)) es) (first (set cs w (upper_of r n)) es)
  first_parts =
      let f : ℤ → Option (List ℤ) = λ x. first (set cs w (point_of x)) es in
      let e : width r ≡ n + width (upper_of r n) = omega (arith, width_upper r n (omega arith)) in
      let a : first (set cs w (lower_of r n)) es ≡ first_over f r.low n =
      part (lower_of r n) (lower_in r n few more) ∙ ap (first_over f r.low) (width_lower r n few) in
      first_place w cs es p l
      ∙ ap (λ (z : Range). first_over f z.low (width z)) (sym at-w)
      ∙ ap (first_over f r.low) e
      ∙ over_parts f n (width (upper_of r n)) r.low
      ∙ ap (λ (o : Option (List ℤ)). or_else o (first_over f (r.low +ℤ pos n) (width (upper_of r n)))) (sym a)
      ∙ ap (or_else (first (set cs w (lower_of r n)) es)) (sym (part (upper_of r n) (upper_in r n few more)))
