-- What is read of a place: its inequalities and entries up to some number.
use mathlib.Core.Path.{◌≡◌, refl, sym, ap, ◌∙◌}
use mathlib.Core.Bool.{Bool, true, false}
use mathlib.Core.List.{List, map}
use Prim.Native.Nat.{ℕ, ◌+◌, ◌*◌, ◌≤◌, ◌<◌, min}
use native.Mathlib.Omega.{arith}
use borrow.Author.Tests.{eqb-true, eqb-false, lt-ltb}
use lib.Dec.{eqb}
use lib.IntN.{ℤ}
use lib.ListN.{length, get_or, set, take, length-set}
use lib.Seq.{get_or-set_same, get_or-set_other, ext_get_or}
use Rattle.cells.specs.Cells.{Cell, no_cell, row_at, rows_from, bounds_from, cell_at, cells_in, PLACES}
use Rattle.cells.specs.CellLaws.{rows_length, rows_at, bounds_length, cells_at, row_is, part_from, rows_part}
use Rattle.constrain.specs.RuleLaws.{read_c}
use Rattle.constrain.specs.Rules.{inside_c}
use Rattle.expr.specs.Records.{PARAMETERS, affine, no_expr, no_bound}
use Rattle.expr.specs.declared.bound.Bound.{Bound}
use Rattle.expr.specs.declared.number.Expr.{Expr}
use Rattle.expr.specs.declared.number.Valuation.{Valuation}
use Rattle.inequalities.specs.Flat.{expr_at, exprs_in}
use Rattle.windows_route.specs.Ended.{rows_there}
use Rattle.pieces.specs.declared.Piece.{Piece}

pub record Reading (l : List ℤ) (m : List ℕ) (p n i : ℕ) (v : Valuation) (z : Piece) : Type 0 where
  pub used : z.used ≡ true
  pub first : z.first ≡ v
  pub count : z.count ≡ n
  pub few : i ≤ 24
  pub ineqs_long : length z.ineqs ≡ 24
  pub bounds_long : length z.bounds ≡ 25
  pub ineqs : (j : ℕ) → j < i → get_or z.ineqs j no_expr ≡ row_at l (50 * p + j)
  pub bounds : (j : ℕ) → j < i → get_or z.bounds j no_bound ≡ read_c (get_or (cells_in l m) p no_cell).bounds j

module _ {A : Type 0} (d : A) (xs : List A) (i : ℕ) (a : A) (f : ℕ → A) (room : i < length xs) (here : a ≡ f i)
    (rest : (j : ℕ) → j < i → get_or xs j d ≡ f j) where
  one_more : (j : ℕ) → j < i + 1 → get_or (set xs i a) j d ≡ f j
  one_more j g = by (eqb j i) refl
    where
      less : (j : ℕ) → j < i + 1 → (j ≡ i → ⊥) → j < i
      less j g o = omega (arith, o)

      by : (t : Bool) → eqb j i ≡ t → get_or (set xs i a) j d ≡ f j
      by true s =
          let same = eqb-true j i s in
          rw same (get_or-set_same xs i a d room ∙ here)
      by false s = let o = eqb-false j i s in get_or-set_other xs i j a d o ∙ rest j (less j g o)

pub reading_turn : (l : List ℤ) (m : List ℕ) (p n i : ℕ) (v : Valuation) (z : Piece) (e : Expr) (b : Bound)
    → Reading l m p n i v z → i < 24
    → length e.coefs ≡ PARAMETERS → affine e ≡ expr_at l (50 * p + i) → b ≡ read_c (get_or (cells_in l m) p no_cell).bounds i
    → Reading l m p n (i + 1) v
    (record { used = z.used; first = z.first; count = z.count; ineqs = set z.ineqs i e; bounds = set z.bounds i b })
reading_turn l m p n i v z e b r h four he hb =
    record {
      used = r.used;
      first = r.first;
      count = r.count;
      few = omega arith;
      ineqs_long = length-set z.ineqs i e ∙ r.ineqs_long;
      bounds_long = length-set z.bounds i b ∙ r.bounds_long;
      ineqs = one_more no_expr z.ineqs i e (λ (j : ℕ). row_at l (50 * p + j)) (omega (arith, r.ineqs_long)) (row_is l (50 * p + i) e
          four
          he) r.ineqs;
      bounds = one_more no_bound z.bounds i b (read_c (get_or (cells_in l m) p no_cell).bounds) (omega (arith, r.bounds_long)) hb r.bounds;
    }

pub reading_ends : (l : List ℤ) (m : List ℕ) (p n i : ℕ) (v : Valuation) (z : Piece) (b : Bound) → p < PLACES
    → Reading l m p n i v z → (i < 24 → ⊥) → b ≡ read_c (get_or (cells_in l m) p no_cell).bounds 24
    → ◌≡◌ {A = Piece} (record { used = z.used; first = z.first; count = z.count; ineqs = z.ineqs; bounds = set z.bounds 24 b })
    (record {
      used = true;
      first = v;
      count = n;
      ineqs = (get_or (cells_in l m) p no_cell).ineqs;
      bounds = (get_or (cells_in l m) p no_cell).bounds;
    })
unfolding cell_at inside_c
reading_ends l m p n i v z b h r over hb =
    λ k. record { used = r.used k; first = r.first k; count = r.count k; ineqs = same_ineqs k; bounds = same_bounds k }
  where
    cell : Cell
    cell = get_or (cells_in l m) p no_cell

    all : i ≡ 24
    all = omega (arith, r.few, over)

    rows : cell.ineqs ≡ rows_from l (50 * p) 24
    rows = ap (λ (c : Cell). c.ineqs) (cells_at l m p h)

    entries : cell.bounds ≡ bounds_from l m (50 * p + 25) (25 * p) 25
    entries = ap (λ (c : Cell). c.bounds) (cells_at l m p h)

    same_ineqs : z.ineqs ≡ cell.ineqs
    same_ineqs =
        ext_get_or no_expr z.ineqs (rows_from l (50 * p) 24) (r.ineqs_long ∙ sym (rows_length l 24 (50 * p)))
        (λ j g.
        let few : j < 24 = omega (arith, r.ineqs_long) in
        r.ineqs j (omega (arith, all)) ∙ sym (rows_at l 24 (50 * p) j few))
        ∙ sym rows

    full : length (set z.bounds 24 b) ≡ 25
    full = length-set z.bounds 24 b ∙ r.bounds_long

    long : length cell.bounds ≡ 25
    long = ap length entries ∙ bounds_length l m 25 (50 * p + 25) (25 * p)

    inside : (j : ℕ) → j < 25 → read_c cell.bounds j ≡ get_or cell.bounds j no_bound
    inside j g =
        let few : min j 24 ≡ j = omega arith in
        rw (lt-ltb j 25 g, few) refl

    same_bounds : set z.bounds 24 b ≡ cell.bounds
    same_bounds =
        ext_get_or no_bound (set z.bounds 24 b) cell.bounds (full ∙ sym long)
        (λ j g.
        let few : j < 25 = omega (arith, full) in
        one_more no_bound z.bounds 24 b (read_c cell.bounds) (omega (arith, r.bounds_long)) hb
        (λ x y. r.bounds x (omega (arith, all))) j (omega arith)
        ∙ inside j few)

-- the inequalities that count at a place, as they are searched in the part of the list from there on
pub rows_first : (l : List ℤ) (m : List ℕ) (p n k : ℕ) → p < PLACES → k ≡ min n 24
    → exprs_in (part_from l p) k ≡ map affine (take n (get_or (cells_in l m) p no_cell).ineqs)
rows_first l m p n k h e = rows_part l p n k e ∙ ap (λ (es : List Expr). map affine (take n es)) (sym (rows_there l m p h))
