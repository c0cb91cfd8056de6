-- What a part's tests change in the cells: the matrix at its place alone.
use Rattle.std.specs.Prelude.{◌≡◌, Bool, true, false, cond, List, ℕ, ◌<◌, ℤ, length, get_or, set}
use Rattle.std.proofs.Common.{sym, ap, subst, ◌∙◌, arith, get_or-set_same, get_or-set_other, set-set}
use Rattle.std.proofs.lemmas.List.{set-get_or}
use Rattle.cells.specs.Cells.{Cell, no_cell, cells_in, with_matrix, put_bound, PLACES}
use Rattle.cells.specs.CellLaws.{cells_long}
use Rattle.expr.specs.declared.bound.Bound.{Bound}

-- the cells l and m, which were cs but for the matrix at place p
pub record Working (cs : List Cell) (p : ℕ) (l : List ℤ) (m : List ℕ) : Type 0 where
  pub cells_long : length l ≡ 22500
  pub marks_long : length m ≡ 2250
  pub there : p < PLACES
  pub full : length cs ≡ PLACES
  pub rest : cells_in l m ≡ set cs p (with_matrix (get_or cs p no_cell) (get_or (cells_in l m) p no_cell).bounds)

-- the matrix at the place now
abbrev pub matrix_at : ℕ → List ℤ → List ℕ → List Bound
matrix_at p l m = (get_or (cells_in l m) p no_cell).bounds

pub working_starts : (l : List ℤ) (m : List ℕ) (p : ℕ) → length l ≡ 22500 → length m ≡ 2250 → p < PLACES → Working (cells_in l m) p l m
working_starts l m p a b h =
    record { cells_long = a; marks_long = b; there = h; full = cells_long l m; rest = sym (set-get_or (cells_in l m) p no_cell) }

module _ (cs : List Cell) (p : ℕ) (l : List ℤ) (m : List ℕ) (w : Working cs p l m) where
  -- other places are as they were
  pub working_other : (q : ℕ) → (q ≡ p → ⊥) → get_or (cells_in l m) q no_cell ≡ get_or cs q no_cell
  working_other q o =
      ap (λ (x : List Cell). get_or x q no_cell) w.rest
      ∙ get_or-set_other cs p q (with_matrix (get_or cs p no_cell) (matrix_at p l m)) no_cell o

  -- the place itself, but for the matrix
  pub working_here : get_or (cells_in l m) p no_cell ≡ with_matrix (get_or cs p no_cell) (matrix_at p l m)
  working_here =
      ap (λ (x : List Cell). get_or x p no_cell) w.rest
      ∙ get_or-set_same cs p (with_matrix (get_or cs p no_cell) (matrix_at p l m)) no_cell (omega (arith, w.there, w.full))

  -- an entry is written
  module _ (l' : List ℤ) (m' : List ℕ) (k : ℕ) (b : Bound) (put : cells_in l' m' ≡ put_bound (cells_in l m) p k b) where
    pub put_matrix : matrix_at p l' m' ≡ set (matrix_at p l m) k b
    put_matrix =
        ap (λ (x : List Cell). (get_or x p no_cell).bounds) put
        ∙ ap (λ (c : Cell). c.bounds)
        (get_or-set_same (cells_in l m) p (with_matrix (get_or (cells_in l m) p no_cell) (set (matrix_at p l m) k b)) no_cell
        (omega (arith, w.there, cells_long l m)))

    pub working_put : length l' ≡ length l → length m' ≡ length m → Working cs p l' m'
    working_put hl hm =
        record {
          cells_long = hl ∙ w.cells_long;
          marks_long = hm ∙ w.marks_long;
          there = w.there;
          full = w.full;
          rest =
              put
              ∙ ap (λ (x : List Cell). set x p (with_matrix (get_or (cells_in l m) p no_cell) (set (matrix_at p l m) k b))) w.rest
              ∙ set-set cs p (with_matrix (get_or cs p no_cell) (matrix_at p l m))
              (with_matrix (get_or (cells_in l m) p no_cell) (set (matrix_at p l m) k b))
              ∙ ap (λ (c : Cell). set cs p (with_matrix c (set (matrix_at p l m) k b))) working_here
              ∙ ap (λ (x : List Bound). set cs p (with_matrix (get_or cs p no_cell) x)) (sym put_matrix);
        }

  -- .. or not
  module _ (l' : List ℤ) (m' : List ℕ) (s : Bool) (k : ℕ) (b : Bound)
      (put : cells_in l' m' ≡ cond s (put_bound (cells_in l m) p k b) (cells_in l m))
      (hl : length l' ≡ length l) (hm : length m' ≡ length m)
    where
      pub entered_matrix : matrix_at p l' m' ≡ cond s (set (matrix_at p l m) k b) (matrix_at p l m)
      entered_matrix = by s put
        where
          by : (t : Bool) → cells_in l' m' ≡ cond t (put_bound (cells_in l m) p k b) (cells_in l m)
              → matrix_at p l' m' ≡ cond t (set (matrix_at p l m) k b) (matrix_at p l m)
          by true e = put_matrix l' m' k b e
          by false e = ap (λ (x : List Cell). (get_or x p no_cell).bounds) e

      pub working_entered : Working cs p l' m'
      working_entered = by s put
        where
          by : (t : Bool) → cells_in l' m' ≡ cond t (put_bound (cells_in l m) p k b) (cells_in l m) → Working cs p l' m'
          by true e = working_put l' m' k b e hl hm
          by false e =
              record {
                cells_long = hl ∙ w.cells_long;
                marks_long = hm ∙ w.marks_long;
                there = w.there;
                full = w.full;
                rest =
                    subst (λ (x : List Cell). x ≡ set cs p (with_matrix (get_or cs p no_cell) (get_or x p no_cell).bounds)) (sym e) w.rest;
              }
