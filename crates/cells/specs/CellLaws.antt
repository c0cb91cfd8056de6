-- What writing and copying numbers makes of cells.
use Rattle.std.specs.Prelude.{◌≡◌, refl, Bool, true, false, ◌≢◌, ltb, eqb, ℤ, pos, length, set, take}
use Rattle.std.proofs.Common.{sym, subst, ◌∙◌, add-one, eqb-true, ltb-true, ltb-false, lt-ltb, le-ltb, length-set, length-drop}
use Rattle.std.proofs.Common.{get_or-set_same, get_or-set_other, get_or-drop, ext_get_or, take_all}
use Rattle.std.proofs.Math.Path.{ap}
use mathlib.Core.List.{List, [], ◌∷◌, ◌++◌, map}
use Prim.Native.Nat.{ℕ, zero, suc, ◌+◌, ◌-◌, ◌*◌, ◌%◌, ◌≤◌, ◌<◌, min}
use native.Mathlib.Omega.{arith}
use Rattle.std.proofs.lemmas.Bool.{eqb-false}
use Rattle.std.proofs.lemmas.List.{get_or-take, length-take}
use Rattle.std.proofs.Math.ListN.{get_or, drop, get_or-append}
use Rattle.expr.specs.Records.{PARAMETERS, places_from, four, affine, expr_of, no_expr, no_bound, zero_bound}
use Rattle.expr.specs.RecordLaws.{places_same}
use Rattle.constrain.specs.RuleLaws.{read_c}
use Rattle.constrain.specs.Rules.{inside_c}
use Rattle.expr.specs.Affine.{Affine}
use Rattle.expr.specs.declared.bound.Bound.{Bound}
use Rattle.expr.specs.declared.number.Expr.{Expr}
use Rattle.inequalities.specs.Flat.{expr_at, exprs_from}
use Rattle.inequalities.specs.Put.{put_before, put_after, put_there}
use Rattle.inequalities.specs.Flat.{put_from}
use Rattle.cells.specs.Cells.{Cell, no_cell, row_at, rows_from, bound_on, bounds_from, cell_at, cells_from, cells_in, PLACES}
use Rattle.cells.specs.Cells.{with_matrix, with_ineq, put_bound, put_ineq, mark_by, mark_of}
use Rattle.cells.specs.Copies.{Copying}

-- ---- lists that are made place by place
pub rows_length : (l : List ℤ) (n r : ℕ) → length (rows_from l r n) ≡ n
unfolding rows_from
rows_length l zero r = refl
rows_length l (suc n) r = ap suc (rows_length l n (suc r))

pub rows_at : (l : List ℤ) (n r j : ℕ) → j < n → get_or (rows_from l r n) j no_expr ≡ row_at l (r + j)
unfolding rows_from
rows_at l zero r j h = absurd (omega arith)
rows_at l (suc n) r zero h = ap (row_at l) (omega arith)
rows_at l (suc n) r (suc j) h = rows_at l n (suc r) j (omega arith) ∙ ap (row_at l) (omega arith)

pub bounds_length : (l : List ℤ) (m : List ℕ) (n r q : ℕ) → length (bounds_from l m r q n) ≡ n
unfolding bounds_from
bounds_length l m zero r q = refl
bounds_length l m (suc n) r q = ap suc (bounds_length l m n (suc r) (suc q))

pub bounds_at : (l : List ℤ) (m : List ℕ) (n r q j : ℕ) → j < n → get_or (bounds_from l m r q n) j no_bound ≡ bound_on l m (r + j) (q + j)
unfolding bounds_from
bounds_at l m zero r q j h = absurd (omega arith)
bounds_at l m (suc n) r q zero h =
    let a : r ≡ r + 0 = omega arith in
    let b : q ≡ q + 0 = omega arith in
    λ i. bound_on l m (a i) (b i)
bounds_at l m (suc n) r q (suc j) h =
    let a : suc r + j ≡ r + suc j = omega arith in
    let b : suc q + j ≡ q + suc j = omega arith in
    bounds_at l m n (suc r) (suc q) j (omega arith) ∙ (λ i. bound_on l m (a i) (b i))

cells_length : (l : List ℤ) (m : List ℕ) (n p : ℕ) → length (cells_from l m p n) ≡ n
unfolding cells_from
cells_length l m zero p = refl
cells_length l m (suc n) p = ap suc (cells_length l m n (suc p))

cells_from_lem : (l : List ℤ) (m : List ℕ) (n p j : ℕ) → j < n → get_or (cells_from l m p n) j no_cell ≡ cell_at l m (p + j)
unfolding cells_from
cells_from_lem l m zero p j h = absurd (omega arith)
cells_from_lem l m (suc n) p zero h = ap (cell_at l m) (omega arith)
cells_from_lem l m (suc n) p (suc j) h = cells_from_lem l m n (suc p) j (omega arith) ∙ ap (cell_at l m) (omega arith)

pub cells_long : (l : List ℤ) (m : List ℕ) → length (cells_in l m) ≡ PLACES
cells_long l m = cells_length l m PLACES 0

pub cells_at : (l : List ℤ) (m : List ℕ) (p : ℕ) → p < PLACES → get_or (cells_in l m) p no_cell ≡ cell_at l m p
cells_at l m p h = cells_from_lem l m PLACES 0 p h ∙ ap (cell_at l m) (omega arith)

pub matrix_long : (l : List ℤ) (m : List ℕ) (p : ℕ) → p < PLACES → length (get_or (cells_in l m) p no_cell).bounds ≡ 25
unfolding cell_at
matrix_long l m p h = ap (λ (c : Cell). length c.bounds) (cells_at l m p h) ∙ bounds_length l m 25 (50 * p + 25) (25 * p)

-- ---- one place is changed
module _ {A : Type 0} (d : A) (l k : List A) (p : ℕ) (a : A) (long : length k ≡ length l) (there : p < length l) where
  pub set_of : get_or k p d ≡ a → ((j : ℕ) → j < length l → (j ≡ p → ⊥) → get_or k j d ≡ get_or l j d) → k ≡ set l p a
  set_of here rest =
      ext_get_or d k (set l p a) (long ∙ sym (length-set l p a)) (λ j h. by j (omega (arith, long)) (eqb j p) refl)
    where
      by : (j : ℕ) → j < length l → (t : Bool) → eqb j p ≡ t → get_or k j d ≡ get_or (set l p a) j d
      by j h true s =
          let same = eqb-true j p s in
          rw same (here ∙ sym (get_or-set_same l p a d there))
      by j h false s =
          let o = eqb-false j p s in
          rest j h o ∙ sym (get_or-set_other l p j a d o)

pub cells_set : (l l' : List ℤ) (m m' : List ℕ) (p : ℕ) (c : Cell) → p < PLACES → cell_at l' m' p ≡ c
    → ((q : ℕ) → q < PLACES → (q ≡ p → ⊥) → cell_at l' m' q ≡ cell_at l m q) → cells_in l' m' ≡ set (cells_in l m) p c
cells_set l l' m m' p c h here rest =
    set_of no_cell (cells_in l m) (cells_in l' m') p c (cells_long l' m' ∙ sym (cells_long l m)) (omega (arith, cells_long l m))
    (cells_at l' m' p h ∙ here)
    (λ j g o.
    let few : j < PLACES = omega (arith, cells_long l m) in
    cells_at l' m' j few ∙ rest j few o ∙ sym (cells_at l m j few))

-- ---- the same numbers are the same rows
row_same : (l l' : List ℤ) (r s : ℕ) → ((i : ℕ) → i < 5 → get_or l' (5 * s + i) (pos 0) ≡ get_or l (5 * r + i) (pos 0)) → row_at l' s ≡
    row_at l r
unfolding row_at expr_at
row_same l l' r s h =
    let a0 = at 0 (5 * s) (5 * r) (omega arith) (omega arith) (omega arith) in
    let a1 = at 1 (5 * s + 1) (5 * r + 1) (omega arith) (omega arith) (omega arith) in
    let a2 = at 2 (suc (5 * s + 1)) (suc (5 * r + 1)) (omega arith) (omega arith) (omega arith) in
    let a3 = at 3 (suc (suc (5 * s + 1))) (suc (suc (5 * r + 1))) (omega arith) (omega arith) (omega arith) in
    let a4 = at 4 (suc (suc (suc (5 * s + 1)))) (suc (suc (suc (5 * r + 1)))) (omega arith) (omega arith) (omega arith) in
    λ i. record { constant = a0 i; coefs = a1 i ∷ a2 i ∷ a3 i ∷ a4 i ∷ [] }
  where
    at : (i x y : ℕ) → i < 5 → x ≡ 5 * s + i → y ≡ 5 * r + i → get_or l' x (pos 0) ≡ get_or l y (pos 0)
    at i x y g e f = rw (e, f) (h i g)

pub rows_same : (l l' : List ℤ) (n r s : ℕ) → ((i : ℕ) → i < 5 * n → get_or l' (5 * s + i) (pos 0) ≡ get_or l (5 * r + i) (pos 0))
    → rows_from l' s n ≡ rows_from l r n
unfolding rows_from
rows_same l l' zero r s h = refl
rows_same l l' (suc n) r s h =
    λ i. row_same l l' r s (λ j g. h j (omega arith)) i ∷ rows_same l l' n (suc r) (suc s) (λ j g. at j (omega arith)) i
  where
    at : (j : ℕ) → 5 + j < 5 * suc n → get_or l' (5 * suc s + j) (pos 0) ≡ get_or l (5 * suc r + j) (pos 0)
    at j g =
        let e : 5 * suc s + j ≡ 5 * s + (5 + j) = omega arith in
        let f : 5 * suc r + j ≡ 5 * r + (5 + j) = omega arith in
        rw (e, f) (h (5 + j) g)

bounds_same : (l l' : List ℤ) (m m' : List ℕ) (n r s p q : ℕ)
    → ((i : ℕ) → i < 5 * n → get_or l' (5 * s + i) (pos 0) ≡ get_or l (5 * r + i) (pos 0))
    → ((i : ℕ) → i < n → get_or m' (q + i) 0 ≡ get_or m (p + i) 0) → bounds_from l' m' s q n ≡ bounds_from l m r p n
unfolding bounds_from bound_on
bounds_same l l' m m' zero r s p q h g = refl
bounds_same l l' m m' (suc n) r s p q h g =
    let mark : get_or m' q 0 ≡ get_or m p 0 = first in
    λ i. record {
      none = ltb 1 (mark i);
      strict = eqb (mark i % 2) 1;
      expr = row_same l l' r s (λ j k. h j (omega arith)) i;
    } ∷ bounds_same l l' m m' n (suc r) (suc s) (suc p) (suc q) (λ j k. at j (omega arith)) (λ j k. on j (omega arith)) i
  where
    first : get_or m' q 0 ≡ get_or m p 0
    first =
        let e : q ≡ q + 0 = omega arith in
        let f : p ≡ p + 0 = omega arith in
        ap (λ (x : ℕ). get_or m' x 0) e ∙ g 0 (omega arith) ∙ ap (λ (x : ℕ). get_or m x 0) (sym f)

    at : (j : ℕ) → 5 + j < 5 * suc n → get_or l' (5 * suc s + j) (pos 0) ≡ get_or l (5 * suc r + j) (pos 0)
    at j k =
        let e : 5 * suc s + j ≡ 5 * s + (5 + j) = omega arith in
        let f : 5 * suc r + j ≡ 5 * r + (5 + j) = omega arith in
        rw (e, f) (h (5 + j) k)

    on : (j : ℕ) → suc j < suc n → get_or m' (suc q + j) 0 ≡ get_or m (suc p + j) 0
    on j k =
        let e : suc q + j ≡ q + suc j = omega arith in
        let f : suc p + j ≡ p + suc j = omega arith in
        rw (e, f) (g (suc j) k)

-- the same numbers and marks are the same cell
module _ (l l' : List ℤ) (m m' : List ℕ) (p q : ℕ)
    (numbers : (i : ℕ) → i < 250 → get_or l' (250 * q + i) (pos 0) ≡ get_or l (250 * p + i) (pos 0))
    (marks : (i : ℕ) → i < 25 → get_or m' (25 * q + i) 0 ≡ get_or m (25 * p + i) 0) where
  pub ineqs_same : rows_from l' (50 * q) 24 ≡ rows_from l (50 * p) 24
  ineqs_same = rows_same l l' 24 (50 * p) (50 * q) (λ i h. at i (omega arith))
    where
      at : (i : ℕ) → i < 250 → get_or l' (5 * (50 * q) + i) (pos 0) ≡ get_or l (5 * (50 * p) + i) (pos 0)
      at i h =
          let e : 5 * (50 * q) + i ≡ 250 * q + i = omega arith in
          let f : 5 * (50 * p) + i ≡ 250 * p + i = omega arith in
          rw (e, f) (numbers i h)

  pub matrix_same : bounds_from l' m' (50 * q + 25) (25 * q) 25 ≡ bounds_from l m (50 * p + 25) (25 * p) 25
  matrix_same = bounds_same l l' m m' 25 (50 * p + 25) (50 * q + 25) (25 * p) (25 * q) (λ i h. at i (omega arith)) marks
    where
      at : (i : ℕ) → i < 125 → get_or l' (5 * (50 * q + 25) + i) (pos 0) ≡ get_or l (5 * (50 * p + 25) + i) (pos 0)
      at i h =
          let e : 5 * (50 * q + 25) + i ≡ 250 * q + (125 + i) = omega arith in
          let f : 5 * (50 * p + 25) + i ≡ 250 * p + (125 + i) = omega arith in
          rw (e, f) (numbers (125 + i) (omega arith))

  pub cell_same : cell_at l' m' q ≡ cell_at l m p
  unfolding cell_at
  cell_same = λ i. record { ineqs = ineqs_same i; bounds = matrix_same i }

-- ---- a place is copied
pub copied_cells : (l l' : List ℤ) (m m' : List ℕ) (p q : ℕ) → p < PLACES → q < PLACES
    → Copying (pos 0) l l' (250 * p) (250 * q) 250 → Copying 0 m m' (25 * p) (25 * q) 25
    → cells_in l' m' ≡ set (cells_in l m) q (get_or (cells_in l m) p no_cell)
copied_cells l l' m m' p q hp hq c d =
    cells_set l l' m m' q (get_or (cells_in l m) p no_cell) hq
    (cell_same l l' m m' p q c.done d.done ∙ sym (cells_at l m p hp))
    (λ x h o. other x o (ltb x q) refl)
  where
    far : (x : ℕ) → (x ≡ q → ⊥) → q ≤ x → q < x
    far x o h = omega (arith, o)

    other : (x : ℕ) → (x ≡ q → ⊥) → (t : Bool) → ltb x q ≡ t → cell_at l' m' x ≡ cell_at l m x
    other x o true e =
        let less = ltb-true x q e in
        cell_same l l' m m' x x (λ i h. c.before (250 * x + i) (omega arith)) (λ i h. d.before (25 * x + i) (omega arith))
    other x o false e =
        let more = far x o (ltb-false x q e) in
        cell_same l l' m m' x x (λ i h. c.after (250 * x + i) (omega arith)) (λ i h. d.after (25 * x + i) (omega arith))

-- ---- expressions of the code
all_coefs : (e : Expr) → length e.coefs ≡ PARAMETERS → four e.coefs ≡ e.coefs
all_coefs e long = subst (λ (n : ℕ). places_from (pos 0) e.coefs 0 n ≡ e.coefs) long (places_same (pos 0) e.coefs)

pub row_is : (l : List ℤ) (r : ℕ) (e : Expr) → length e.coefs ≡ PARAMETERS → affine e ≡ expr_at l r → e ≡ row_at l r
unfolding row_at
row_is l r e long h = ap (λ (xs : List ℤ). record { constant = e.constant; coefs = xs }) (sym (all_coefs e long)) ∙ ap expr_of h

-- rows as expressions of any number of parameters
pub row_affine : (l : List ℤ) (r : ℕ) → affine (row_at l r) ≡ expr_at l r
unfolding row_at expr_at
row_affine l r = refl

pub rows_affine : (l : List ℤ) (n r : ℕ) → map affine (rows_from l r n) ≡ exprs_from l r n
unfolding rows_from row_at exprs_from expr_at
rows_affine l zero r = refl
rows_affine l (suc n) r = ap (λ (es : List Affine). expr_at l r ∷ es) (rows_affine l n (suc r))

pub rows_taken : (l : List ℤ) (n m r : ℕ) → n ≤ m → take n (rows_from l r m) ≡ rows_from l r n
unfolding rows_from
rows_taken l zero m r h = refl
rows_taken l (suc n) zero r h = absurd (omega arith)
rows_taken l (suc n) (suc m) r h = ap (λ (es : List Expr). row_at l r ∷ es) (rows_taken l n m (suc r) (omega arith))

rows_least : (l : List ℤ) (k n r : ℕ) → take k (rows_from l r n) ≡ rows_from l r (min k n)
unfolding rows_from
rows_least l zero n r =
    let e : zero ≡ min zero n = omega arith in
    ap (rows_from l r) e
rows_least l (suc k) zero r =
    let e : zero ≡ min (suc k) zero = omega arith in
    ap (rows_from l r) e
rows_least l (suc k) (suc n) r =
    let e : suc (min k n) ≡ min (suc k) (suc n) = omega arith in
    ap (λ (es : List Expr). row_at l r ∷ es) (rows_least l k n (suc r)) ∙ ap (rows_from l r) e

-- the part of a list of numbers from place p on
abbrev pub part_from : List ℤ → ℕ → List ℤ
part_from l p = take (length l - 250 * p) (drop (250 * p) l)

-- the first k inequalities of a place, 24 at most, are the first in that part
pub rows_part : (l : List ℤ) (p k n : ℕ) → n ≡ min k 24 → exprs_from (part_from l p) 0 n ≡ map affine (take k (rows_from l (50 * p) 24))
rows_part l p k n e =
    sym (rows_affine (part_from l p) n 0)
    ∙ ap (map affine) (rows_same l (part_from l p) n (50 * p) 0 at ∙ ap (rows_from l (50 * p)) e ∙ sym (rows_least l k 24 (50 * p)))
  where
    rest : part_from l p ≡ drop (250 * p) l
    rest = take_all (length l - 250 * p) (drop (250 * p) l) (let a = length-drop (250 * p) l in omega arith)

    at : (i : ℕ) → i < 5 * n → get_or (part_from l p) (5 * 0 + i) (pos 0) ≡ get_or l (5 * (50 * p) + i) (pos 0)
    at i g =
        let a : 5 * 0 + i ≡ i = omega arith in
        let b : 5 * (50 * p) + i ≡ 250 * p + i = omega arith in
        rw (a, b, rest) (get_or-drop (250 * p) l i (pos 0))

-- the first n inequalities of a place, in a list of their own
pub rows_copied : (l l' : List ℤ) (m : List ℕ) (p n : ℕ) → p < PLACES → n ≤ 24
    → ((i : ℕ) → i < 5 * n → get_or l' i (pos 0) ≡ get_or l (250 * p + i) (pos 0))
    → exprs_from l' 0 n ≡ map affine (take n (get_or (cells_in l m) p no_cell).ineqs)
unfolding cell_at
rows_copied l l' m p n h few same =
    sym (rows_affine l' n 0)
    ∙ ap (map affine) (rows_same l l' n (50 * p) 0 at)
    ∙ ap (map affine) (sym (rows_taken l n 24 (50 * p) few))
    ∙ ap (λ (c : Cell). map affine (take n c.ineqs)) (sym (cells_at l m p h))
  where
    at : (i : ℕ) → i < 5 * n → get_or l' (5 * 0 + i) (pos 0) ≡ get_or l (5 * (50 * p) + i) (pos 0)
    at i g =
        let e : 5 * 0 + i ≡ i = omega arith in
        let f : 5 * (50 * p) + i ≡ 250 * p + i = omega arith in
        rw (e, f) (same i g)

-- ---- an entry is read
pub read_inside : (l : List ℤ) (m : List ℕ) (p k : ℕ) → p < PLACES → k < 25
    → bound_on l m (50 * p + 25 + k) (25 * p + k) ≡ read_c (get_or (cells_in l m) p no_cell).bounds k
unfolding inside_c cell_at
read_inside l m p k h g =
    let few : min k 24 ≡ k = omega arith in
    sym (bounds_at l m 25 (50 * p + 25) (25 * p) k g)
    ∙ ap (λ (c : Cell). get_or c.bounds k no_bound) (sym (cells_at l m p h))
    ∙ rw (lt-ltb k 25 g, few) refl

pub read_outside : (m : List Bound) (k : ℕ) → 25 ≤ k → zero_bound ≡ read_c m k
unfolding inside_c
read_outside m k h = rw (le-ltb k 25 h) refl

-- ---- a row is written
module _ (l : List ℤ) (r : ℕ) (e : Expr) where
  abbrev pub written : List ℤ
  written = put_from l (5 * r) (e.constant ∷ four e.coefs)

  written_here : 5 * r + 5 ≤ length l → length e.coefs ≡ PARAMETERS → row_at written r ≡ e
  unfolding row_at expr_at
  written_here h long =
      let back = put_there (e.constant ∷ four e.coefs) l (5 * r) h in
      let one : suc (5 * r) ≡ 5 * r + 1 = omega arith in
      ap (λ (s : ℕ). expr_of (record { constant = get_or written (5 * r) (pos 0); coefs = places_from (pos 0) written s 4 })) (sym one)
      ∙ ap (λ (xs : List ℤ). expr_of (record { constant = get_or xs 0 (pos 0); coefs = drop 1 xs })) back
      ∙ ap (λ (xs : List ℤ). record { constant = e.constant; coefs = xs }) (all_coefs e long)

  -- other numbers stay
  stays : (i : ℕ) → (t : Bool) → ltb i (5 * r) ≡ t → (t ≡ false → 5 * r + 5 ≤ i) → get_or written i (pos 0) ≡ get_or l i (pos 0)
  stays i true s h = put_before (e.constant ∷ four e.coefs) l (5 * r) i (ltb-true i (5 * r) s)
  stays i false s h = put_after (e.constant ∷ four e.coefs) l (5 * r) i (h refl)

  other_number : (i : ℕ) → (5 * r ≤ i → 5 * r + 5 ≤ i) → get_or written i (pos 0) ≡ get_or l i (pos 0)
  other_number i h = stays i (ltb i (5 * r)) refl (λ s. h (ltb-false i (5 * r) s))

  other_row : (s : ℕ) → (s ≡ r → ⊥) → row_at written s ≡ row_at l s
  other_row s o = row_same l written s s (λ i h. other_number (5 * s + i) (λ g. far s i o h g))
    where
      far : (s i : ℕ) → (s ≡ r → ⊥) → i < 5 → 5 * r ≤ 5 * s + i → 5 * r + 5 ≤ 5 * s + i
      far s i o h g = omega (arith, o)

-- another place has no part of it
module _ (l : List ℤ) (m m' : List ℕ) (p s : ℕ) (e : Expr) (few : s < 50)
    (marks : (i : ℕ) → (i < 25 * p → get_or m' i 0 ≡ get_or m i 0) × (25 * p + 25 ≤ i → get_or m' i 0 ≡ get_or m i 0)) where
  other_cell : (q : ℕ) → (q ≡ p → ⊥) → cell_at (written l (50 * p + s) e) m' q ≡ cell_at l m q
  other_cell q o =
      cell_same l (written l (50 * p + s) e) m m' q q
      (λ i h. other_number l (50 * p + s) e (250 * q + i) (λ g. far i h g))
      (λ i h. by i h (ltb q p) refl)
    where
      far : (i : ℕ) → i < 250 → 5 * (50 * p + s) ≤ 250 * q + i → 5 * (50 * p + s) + 5 ≤ 250 * q + i
      far i h g = omega (arith, o)

      more : q ≢ p → p ≤ q → p < q
      more n h = omega (arith, n)

      by : (i : ℕ) → i < 25 → (t : Bool) → ltb q p ≡ t → get_or m' (25 * q + i) 0 ≡ get_or m (25 * q + i) 0
      by i h true b = let g = ltb-true q p b in (marks (25 * q + i)).0 (omega arith)
      by i h false b = let g = more o (ltb-false q p b) in (marks (25 * q + i)).1 (omega arith)

-- ---- an inequality is written
pub written_ineq : (l : List ℤ) (m : List ℕ) (p k : ℕ) (e : Expr) → p < PLACES → k < 24 → length l ≡ 22500
    → length e.coefs ≡ PARAMETERS → cells_in (written l (50 * p + k) e) m ≡ put_ineq (cells_in l m) p k e
unfolding cell_at
written_ineq l m p k e hp hk long four =
    cells_set l l' m m p (with_ineq (get_or (cells_in l m) p no_cell) k e) hp
    (here ∙ ap (λ (c : Cell). with_ineq c k e) (sym (cells_at l m p hp)))
    (λ q h o. other_cell l m m p k e (omega arith) (λ i. (λ g. refl, λ g. refl)) q o)
  where
    l' : List ℤ
    l' = written l (50 * p + k) e

    same_length : length (rows_from l' (50 * p) 24) ≡ length (rows_from l (50 * p) 24)
    same_length = rows_length l' 24 (50 * p) ∙ sym (rows_length l 24 (50 * p))

    ineqs : rows_from l' (50 * p) 24 ≡ set (rows_from l (50 * p) 24) k e
    ineqs =
        set_of no_expr (rows_from l (50 * p) 24) (rows_from l' (50 * p) 24) k e same_length (omega (arith, rows_length l 24 (50 * p)))
        (rows_at l' 24 (50 * p) k hk ∙ written_here l (50 * p + k) e (omega (arith, long)) four)
        (λ j h o.
        let few : j < 24 = omega (arith, rows_length l 24 (50 * p)) in
        rows_at l' 24 (50 * p) j few ∙ other_row l (50 * p + k) e (50 * p + j) (λ s. o (omega arith))
        ∙ sym (rows_at l 24 (50 * p) j few))

    matrix : bounds_from l' m (50 * p + 25) (25 * p) 25 ≡ bounds_from l m (50 * p + 25) (25 * p) 25
    matrix =
        bounds_same l l' m m 25 (50 * p + 25) (50 * p + 25) (25 * p) (25 * p)
        (λ i h. other_number l (50 * p + k) e (5 * (50 * p + 25) + i) (λ g. omega arith)) (λ i h. refl)

    here : record { ineqs = rows_from l' (50 * p) 24; bounds = bounds_from l' m (50 * p + 25) (25 * p) 25 }
        ≡ with_ineq (record { ineqs = rows_from l (50 * p) 24; bounds = bounds_from l m (50 * p + 25) (25 * p) 25 }) k e
    here = λ i. record { ineqs = ineqs i; bounds = matrix i }

-- ---- an entry is written
mark_back : (n s : Bool) → (ltb 1 (mark_by n s) ≡ n) × (eqb (mark_by n s % 2) 1 ≡ s)
mark_back true true = (refl, refl)
mark_back true false = (refl, refl)
mark_back false true = (refl, refl)
mark_back false false = (refl, refl)

pub written_bound : (l : List ℤ) (m : List ℕ) (p k : ℕ) (b : Bound) (x : ℕ) → p < PLACES → k < 25 → length l ≡ 22500
    → length m ≡ 2250 → length b.expr.coefs ≡ PARAMETERS → x ≡ mark_of b
    → cells_in (written l (50 * p + 25 + k) b.expr) (set m (25 * p + k) x) ≡ put_bound (cells_in l m) p k b
unfolding cell_at bound_on
written_bound l m p k b x hp hk long marks four hx =
    cells_set l l' m m' p (with_matrix (get_or (cells_in l m) p no_cell) (set (get_or (cells_in l m) p no_cell).bounds k b)) hp
    (here ∙ ap (λ (c : Cell). with_matrix c (set c.bounds k b)) (sym (cells_at l m p hp)))
    (λ q h o.
    ap (λ (r : ℕ). cell_at (written l r b.expr) m' q) at ∙ other_cell l m m' p (25 + k) b.expr (omega arith) other_mark q o)
  where
    l' : List ℤ
    l' = written l (50 * p + 25 + k) b.expr

    m' : List ℕ
    m' = set m (25 * p + k) x

    at : 50 * p + 25 + k ≡ 50 * p + (25 + k)
    at = omega arith

    other_mark : (i : ℕ) → (i < 25 * p → get_or m' i 0 ≡ get_or m i 0) × (25 * p + 25 ≤ i → get_or m' i 0 ≡ get_or m i 0)
    other_mark i = (
      λ g. get_or-set_other m (25 * p + k) i x 0 (λ e. omega arith),
      λ g. get_or-set_other m (25 * p + k) i x 0 (λ e. omega arith),
    )

    ineqs : rows_from l' (50 * p) 24 ≡ rows_from l (50 * p) 24
    ineqs = rows_same l l' 24 (50 * p) (50 * p)
        (λ i h. other_number l (50 * p + 25 + k) b.expr (5 * (50 * p) + i) (λ g. absurd (omega arith)))

    same_length : length (bounds_from l' m' (50 * p + 25) (25 * p) 25) ≡ length (bounds_from l m (50 * p + 25) (25 * p) 25)
    same_length = bounds_length l' m' 25 (50 * p + 25) (25 * p) ∙ sym (bounds_length l m 25 (50 * p + 25) (25 * p))

    put : bound_on l' m' (50 * p + 25 + k) (25 * p + k) ≡ b
    put =
        let mark = get_or-set_same m (25 * p + k) x 0 (omega (arith, marks)) ∙ hx in
        let back = mark_back b.none b.strict in
        (λ i. record {
          none = ltb 1 (mark i);
          strict = eqb (mark i % 2) 1;
          expr = written_here l (50 * p + 25 + k) b.expr (omega (arith, long)) four i;
        })
        ∙ (λ i. record { none = back.0 i; strict = back.1 i; expr = b.expr })

    kept : (j : ℕ) → (j ≡ k → ⊥) → bound_on l' m' (50 * p + 25 + j) (25 * p + j) ≡ bound_on l m (50 * p + 25 + j) (25 * p + j)
    kept j o =
        let mark = get_or-set_other m (25 * p + k) (25 * p + j) x 0 (λ e. o (omega arith)) in
        λ i. record {
          none = ltb 1 (mark i);
          strict = eqb (mark i % 2) 1;
          expr = other_row l (50 * p + 25 + k) b.expr (50 * p + 25 + j) (λ e. o (omega arith)) i;
        }

    bounds : bounds_from l' m' (50 * p + 25) (25 * p) 25 ≡ set (bounds_from l m (50 * p + 25) (25 * p) 25) k b
    bounds =
        set_of no_bound (bounds_from l m (50 * p + 25) (25 * p) 25) (bounds_from l' m' (50 * p + 25) (25 * p) 25) k b same_length
        (omega (arith, bounds_length l m 25 (50 * p + 25) (25 * p)))
        (bounds_at l' m' 25 (50 * p + 25) (25 * p) k hk ∙ put)
        (λ j h o.
        let few : j < 25 = omega (arith, bounds_length l m 25 (50 * p + 25) (25 * p)) in
        bounds_at l' m' 25 (50 * p + 25) (25 * p) j few ∙ kept j o ∙ sym (bounds_at l m 25 (50 * p + 25) (25 * p) j few))

    here : record { ineqs = rows_from l' (50 * p) 24; bounds = bounds_from l' m' (50 * p + 25) (25 * p) 25 }
        ≡ with_matrix (record { ineqs = rows_from l (50 * p) 24; bounds = bounds_from l m (50 * p + 25) (25 * p) 25 })
        (set (bounds_from l m (50 * p + 25) (25 * p) 25) k b)
    here = λ i. record { ineqs = ineqs i; bounds = bounds i }

-- ---- one after another
-- a row is written whole
pub bound_is : (l : List ℤ) (m : List ℕ) (p k : ℕ) (e : Expr) (x : ℕ) → length e.coefs ≡ PARAMETERS
    → affine e ≡ expr_at l (50 * p + 25 + k) → x ≡ get_or m (25 * p + k) 0
    → record { none = ltb 1 x; strict = eqb (x % 2) 1; expr = e } ≡ bound_on l m (50 * p + 25 + k) (25 * p + k)
unfolding bound_on
bound_is l m p k e x four he hx =
    λ i. record { none = ltb 1 (hx i); strict = eqb (hx i % 2) 1; expr = row_is l (50 * p + 25 + k) e four he i }

-- n numbers of a list copied to the start of another
pub copied_part : (l xs rest : List ℤ) (at n m : ℕ) → xs ≡ take m (drop at l) → m ≡ n → at + n ≤ length l
    → (i : ℕ) → i < n → get_or (xs ++ rest) i (pos 0) ≡ get_or l (at + i) (pos 0)
copied_part l xs rest at n m e f room i h =
    let few : length xs ≡ n = ap length e ∙ length-take m (drop at l) ∙ omega (arith, length-drop at l) in
    get_or-append xs rest (pos 0) i (omega arith)
    ∙ ap (λ (k : List ℤ). get_or k i (pos 0)) e
    ∙ get_or-take m (drop at l) i (pos 0) (omega arith)
    ∙ get_or-drop at l i (pos 0)
