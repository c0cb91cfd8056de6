-- The most of an inequality in a box, term by term, and what a cut at one place keeps.
use mathlib.Core.Path.{◌≡◌, refl, ap, sym, ◌∙◌}
use mathlib.Core.List.{List, [], ◌∷◌}
use Prim.Native.Nat.{ℕ, zero, suc, ◌+◌, ◌-◌, ◌≤◌, ◌<◌}
use native.Mathlib.Numerals.{add-one}
use native.Mathlib.Omega.{arith}
use lib.IntN.{ℤ, pos, ◌+ℤ◌, ◌-ℤ◌, ◌*ℤ◌}
use lib.ListN.{length, get_or, set, drop, replicate}
use lib.Seq.{drop-cons}
use lib.Signed.{◌≤ℤ◌, ◌<ℤ◌}
use mir.Syntax.{w32, w64}
use mir.Val.{SFits, to_z, of_z}
use mir.ValLaws.{to_z-of_z}
use Rattle.integer.specs.Parts.{n}
use Rattle.integer.specs.Product.{fits_size, size_fits, sum_size, difference_size, size_low, size_high}
use Rattle.integer.specs.Split.{split, split-all}
use Rattle.expr.specs.Affine.{dot, value}
use Rattle.expr.specs.Ranges.{In, Inside}
use Rattle.expr.specs.Records.{PARAMETERS, places_from, four, affine, blank_range}
use Rattle.expr.specs.declared.number.Expr.{Expr}
use Rattle.expr.specs.declared.range.Range.{Range}
use Rattle.narrowing.specs.Cut.{Within, Cut, Part}
use Rattle.intervals.specs.Interval.{EMPTY, interval, Tame}
use Rattle.narrowing.specs.Best.{best, best_sum, best_of, best_most, best_sum_most}
use Rattle.inequalities.specs.Sizes.{Sized, SizedTo}
use Rattle.intervals.specs.IntervalLaws.{In-EMPTY, interval_exact}

-- ---- one product
-- x holds a times the end of r at which that is the most
pub record Most (a : ℤ) (r : Range) (x : ℤ) : Type 0 where
  pub is : x ≡ best a r
  pub size : Sized x

-- ---- the constant and the products, one after another
-- what the products from place i on add, at most
abbrev rest : List ℤ → List Range → ℕ → ℤ
rest l rs i = best_sum (places_from (pos 0) l i (PARAMETERS - i)) (drop i rs)

-- the sum of i products so far, and its size
pub record SumTo (e : Expr) (rs : List Range) (i : ℕ) (x : ℤ) : Type 0 where
  pub is : x +ℤ rest e.coefs rs i ≡ best_of (affine e) rs
  pub size : SizedTo i x

sum_moved : (c d e : ℤ) → c +ℤ (d +ℤ e) ≡ (c +ℤ d) +ℤ e
sum_moved c d e = rw (split c, split d, split e) (simp split-all (omega arith))

no_more : (c : ℤ) → c +ℤ pos 0 ≡ c
no_more c = rw (split c) (simp split-all (omega arith))

pub sum_start : (e : Expr) (rs : List Range) → SFits w32 e.constant → SumTo e rs 0 e.constant
unfolding best_of
sum_start e rs f = record { is = refl; size = omega (arith, fits_size f) }

rest_turn : (l : List ℤ) (rs : List Range) (i j : ℕ) → i < length rs → PARAMETERS - i ≡ suc j
    → rest l rs i ≡ best (get_or l i (pos 0)) (get_or rs i blank_range) +ℤ best_sum (places_from (pos 0) l (i + 1) j) (drop (i + 1) rs)
unfolding best_sum
rest_turn l rs i j h e = rw (e, drop-cons rs i blank_range h, add-one) refl

pub sum_turn : (e : Expr) (rs : List Range) (i : ℕ) (x y : ℤ) → SumTo e rs i x → i < PARAMETERS → length rs ≡ PARAMETERS
    → Most (get_or e.coefs i (pos 0)) (get_or rs i blank_range) y → SumTo e rs (i + 1) (x +ℤ y)
sum_turn e rs i x y s h m t =
    let q : PARAMETERS - i ≡ suc (PARAMETERS - (i + 1)) = omega arith in
    let g : i < length rs = omega arith in record {
      is = sym (sum_moved x y (rest e.coefs rs (i + 1)))
          ∙ ap (λ (z : ℤ). x +ℤ (z +ℤ rest e.coefs rs (i + 1))) t.is
          ∙ ap (λ (z : ℤ). x +ℤ z) (sym (rest_turn e.coefs rs i (PARAMETERS - (i + 1)) g q))
          ∙ s.is;
      size = omega (arith, sum_size x y s.size t.size);
    }

-- the sum with one product more, at locals that hold the numbers
pub sum_next : (e : Expr) (rs : List Range) (i : ℕ) (sum x : ℤ) → SumTo e rs i sum → i < PARAMETERS → length rs ≡ PARAMETERS
    → SFits w32 (get_or e.coefs i (pos 0)) → x ≡ best (to_z w32 (of_z w32 (get_or e.coefs i (pos 0)))) (get_or rs i blank_range) → Sized x
    → SumTo e rs (i + 1) (sum +ℤ to_z w64 (of_z w64 x))
sum_next e rs i sum x t h l g v s =
    let f : SFits w64 x = size_fits w64 x (omega (arith, s)) in
    let a = get_or e.coefs i (pos 0) in
    let m : Most a (get_or rs i blank_range) x = record { is = rw (to_z-of_z w32 a g) at v; size = s } in
    rw (to_z-of_z w64 x f) (sum_turn e rs i _ x t h l m)

pub sum_fits : (i : ℕ) (x : ℤ) → i ≤ PARAMETERS → SizedTo i x → SFits w64 x
sum_fits i x h k = size_fits w64 x (omega arith)

pub sum_all : (e : Expr) (rs : List Range) (i : ℕ) (x : ℤ) → SumTo e rs i x → i ≤ PARAMETERS → (i < PARAMETERS → ⊥)
    → (x ≡ best_of (affine e) rs) × SizedTo 4 x
unfolding best_sum
sum_all e rs i x s h g =
    let q : i ≡ PARAMETERS = omega arith in
    let t : SumTo e rs PARAMETERS x = rw q at s in
    (sym (no_more x) ∙ t.is, t.size)

-- ---- the cut of one range
-- what an inequality of at most m leaves without the product of at most x, and with another one
pub less_fits : (m x : ℤ) → SizedTo 4 m → Sized x → SFits w64 (m -ℤ x)
less_fits m x h k = size_fits w64 (m -ℤ x) (omega (arith, difference_size m x h k))

pub more_fits : (m x y : ℤ) → SizedTo 4 m → Sized x → Sized y → SFits w64 ((m -ℤ x) +ℤ y)
more_fits m x y h k j = size_fits w64 ((m -ℤ x) +ℤ y) (omega (arith, sum_size (m -ℤ x) y (difference_size m x h k) j))

pub less_tame : (m x : ℤ) → SizedTo 4 m → Sized x → Tame (m -ℤ x)
less_tame m x h k =
    let s = difference_size m x h k in (
      size_low {x = m -ℤ x} {A = 4611686018427387903} (omega (arith, s)),
      size_high {x = m -ℤ x} {A = 4611686018427387903}
          (omega (arith, s)),
    )

pub part_cut : (a m b x y : ℤ) (r s : Range) → s ≡ interval r x y → x ≡ m -ℤ b → b ≡ best a r → y ≡ a → Part a m r s
part_cut a m b x y r s e f g h =
    let q : s ≡ interval r (m -ℤ best a r) a = e ∙ ap (λ (z : ℤ). interval r z y)
    (f ∙ ap (λ (z : ℤ). m -ℤ z) g) ∙ ap (λ (z : ℤ). interval r (m -ℤ best a r) z) h in
    rw q record {
      within = λ x i. ((interval_exact r (m -ℤ best a r) a x).0 i).0;
      keeps = λ x i k. (interval_exact r (m -ℤ best a r) a x).1 (i, k);
    }

-- ---- the cut of all ranges
pub within_refl : (rs : List Range) → Within rs rs
within_refl [] = tt
within_refl (r ∷ rs) = (λ x h. h, within_refl rs)

-- nothing is in empty ranges
within_empty : (rs : List Range) → Within (replicate (length rs) EMPTY) rs
within_empty [] = tt
within_empty (r ∷ rs) = (λ x h. absurd (In-EMPTY h), within_empty rs)

within_set : (i : ℕ) (ss rs : List Range) (s : Range) → Within ss rs → ((x : ℤ) → In x s → In x (get_or rs i blank_range))
    → Within (set ss i s) rs
within_set i [] [] s h k = tt
within_set i [] (r ∷ rs) s h k = h
within_set i (t ∷ ss) [] s h k = absurd h
within_set zero (t ∷ ss) (r ∷ rs) s h k = (k, h.1)
within_set (suc i) (t ∷ ss) (r ∷ rs) s h k = (h.0, within_set i ss rs s h.1 k)

inside_set : (i : ℕ) (v : List ℤ) (ss : List Range) (s : Range) → Inside v ss → In (get_or v i (pos 0)) s → Inside v (set ss i s)
inside_set i [] [] s h k = tt
inside_set i [] (r ∷ rs) s h k = absurd h
inside_set i (x ∷ v) [] s h k = absurd h
inside_set zero (x ∷ v) (r ∷ rs) s h k = (k, h.1)
inside_set (suc i) (x ∷ v) (r ∷ rs) s h k = (h.0, inside_set i v rs s h.1 k)

inside_at : (i : ℕ) (v : List ℤ) (rs : List Range) → i < length rs → Inside v rs → In (get_or v i (pos 0)) (get_or rs i blank_range)
inside_at i v [] h k = absurd (omega arith)
inside_at i [] (r ∷ rs) h k = absurd k
inside_at zero (x ∷ v) (r ∷ rs) h k = k.0
inside_at (suc i) (x ∷ v) (r ∷ rs) h k = inside_at i v rs (omega arith) k.1

first_less : (y d b s : ℤ) → d ≤ℤ s → (y +ℤ d) ≤ℤ ((b +ℤ s) -ℤ b +ℤ y)
first_less y d b s = rw (split y, split d, split b, split s) (simp split-all (omega arith))

later_less : (y d b s e x : ℤ) → y ≤ℤ b → d ≤ℤ ((s -ℤ e) +ℤ x) → (y +ℤ d) ≤ℤ (((b +ℤ s) -ℤ e) +ℤ x)
later_less y d b s e x = rw (split y, split d, split b, split s, split e, split x) (simp split-all (omega arith))

-- the product at place i put in, the others being at their best
place_most : (i : ℕ) (l : List ℤ) (j n : ℕ) (v : List ℤ) (rs : List Range) → i < n → i < length rs → Inside v rs
    → dot (places_from (pos 0) l j n) v
    ≤ℤ ((best_sum (places_from (pos 0) l j n) rs -ℤ best (get_or l (j + i) (pos 0)) (get_or rs i blank_range)) +ℤ
    (get_or l (j + i) (pos 0) *ℤ get_or v i (pos 0)))
unfolding dot best_sum
place_most i l j zero v rs h g k = absurd (omega arith)
place_most i l j (suc n) v [] h g k = absurd (omega arith)
place_most i l j (suc n) [] (r ∷ rs) h g k = absurd k
place_most zero l j (suc n) (x ∷ v) (r ∷ rs) h g k =
    let e : j + 0 ≡ j = omega arith in
    rw e (first_less (get_or l j (pos 0) *ℤ x) (dot (places_from (pos 0) l (suc j) n) v) (best (get_or l j (pos 0)) r)
    (best_sum (places_from (pos 0) l (suc j) n) rs) (best_sum_most (places_from (pos 0) l (suc j) n) v rs k.1))
place_most (suc i) l j (suc n) (x ∷ v) (r ∷ rs) h g k =
    let e : j + suc i ≡ suc j + i = omega arith in
    rw e (later_less (get_or l j (pos 0) *ℤ x) (dot (places_from (pos 0) l (suc j) n) v) (best (get_or l j (pos 0)) r)
    (best_sum (places_from (pos 0) l (suc j) n) rs) (best (get_or l (suc j + i) (pos 0)) (get_or rs i blank_range))
    (get_or l (suc j + i) (pos 0) *ℤ get_or v i (pos 0)) (best_most (get_or l j (pos 0)) x r k.0)
    (place_most i l (suc j) n v rs (omega arith) (omega arith) k.1))

with_constant : (c d s e x : ℤ) → d ≤ℤ ((s -ℤ e) +ℤ x) → pos 0 ≤ℤ (c +ℤ d) → pos 0 ≤ℤ (((c +ℤ s) -ℤ e) +ℤ x)
with_constant c d s e x = rw (split c, split d, split s, split e, split x) (simp split-all (omega arith))

module _ (e : Expr) (rs : List Range) where
  pub cut_start : Cut (affine e) rs rs
  cut_start = record { within = within_refl rs; keeps = λ v h g. h }

  -- one more range is cut
  pub cut_turn : (i : ℕ) (m : ℤ) (ss : List Range) (s : Range) → i < PARAMETERS → length rs ≡ PARAMETERS → m ≡ best_of (affine e) rs
      → Part (get_or e.coefs i (pos 0)) m (get_or rs i blank_range) s → Cut (affine e) rs ss → Cut (affine e) rs (set ss i s)
  unfolding best_of value
  cut_turn i m ss s h g q t c = record {
    within = within_set i ss rs s c.within t.within;
    keeps = λ v j k. inside_set i v ss s (c.keeps v j k)
        (t.keeps (get_or v i (pos 0)) (inside_at i v rs (omega arith) j) (rw q
        (with_constant e.constant (dot (four e.coefs) v) (best_sum (four e.coefs) rs)
        (best (get_or e.coefs i (pos 0)) (get_or rs i blank_range)) (get_or e.coefs i (pos 0) *ℤ get_or v i (pos 0)) (most_at v j) k)));
  }
    where
      most_at : (v : List ℤ) → Inside v rs
          → dot (four e.coefs) v
          ≤ℤ ((best_sum (four e.coefs) rs -ℤ best (get_or e.coefs i (pos 0)) (get_or rs i blank_range)) +ℤ
          (get_or e.coefs i (pos 0) *ℤ get_or v i (pos 0)))
      most_at v j =
          let z : 0 + i ≡ i = omega arith in
          rw z at (place_most i e.coefs 0 PARAMETERS v rs h (omega arith) j)

  -- an inequality that is below 0 at its best leaves nothing
  pub cut_none : (m : ℤ) → length rs ≡ PARAMETERS → m ≡ best_of (affine e) rs → m <ℤ pos 0
      → Cut (affine e) rs (replicate PARAMETERS EMPTY)
  unfolding best_of value
  cut_none m g q h = record {
    within = rw g at (within_empty rs);
    keeps = λ v j k. absurd (below _ _ e.constant (best_sum_most (four e.coefs) v rs j) k (rw q at h));
  }
    where
      below : (d s c : ℤ) → d ≤ℤ s → pos 0 ≤ℤ (c +ℤ d) → (c +ℤ s) <ℤ pos 0 → ⊥
      below d s c = rw (split d, split s, split c) (simp split-all (omega arith))
