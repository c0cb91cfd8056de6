-- Zones (paper: pieces) as plain numbers: what a list of numbers and a list of marks have at each place.
use Rattle.std.specs.Prelude.{Bool, true, false, List, [], ◌∷◌, ℕ, zero, suc, ◌+◌, ◌*◌, ◌%◌, ltb, eqb, ℤ, get_or, set}
use Rattle.expr.specs.Records.{expr_of}
use Rattle.expr.specs.declared.bound.Bound.{Bound}
use Rattle.expr.specs.declared.number.Expr.{Expr}
use Rattle.inequalities.specs.Flat.{expr_at}
use Rattle.zones.specs.declared.zone.Zone.{Zone}

-- what a place has: inequalities, those that count and zeros or others past them, and a matrix
pub record Cell : Type 0 where
  pub ineqs : List Expr
  pub bounds : List Bound

-- what is read past the last place
abbrev pub no_cell : Cell
no_cell = record { ineqs = []; bounds = [] }

-- row r
unfoldable pub row_at : List ℤ → ℕ → Expr
row_at l r = expr_of (expr_at l r)

-- n rows from row r on
unfoldable pub rows_from : List ℤ → ℕ → ℕ → List Expr
rows_from l r zero = []
rows_from l r (suc n) = row_at l r ∷ rows_from l (suc r) n

-- the bound of row r and mark q
unfoldable pub bound_on : List ℤ → List ℕ → ℕ → ℕ → Bound
bound_on l m r q = record { none = ltb 1 (get_or m q 0); strict = eqb (get_or m q 0 % 2) 1; expr = row_at l r }

-- n bounds from row r and mark q on
unfoldable pub bounds_from : List ℤ → List ℕ → ℕ → ℕ → ℕ → List Bound
bounds_from l m r q zero = []
bounds_from l m r q (suc n) = bound_on l m r q ∷ bounds_from l m (suc r) (suc q) n

-- what place p has: 50 rows, and 25 marks
unfoldable pub cell_at : List ℤ → List ℕ → ℕ → Cell
cell_at l m p = record { ineqs = rows_from l (50 * p) 24; bounds = bounds_from l m (50 * p + 25) (25 * p) 25 }

-- n places from p on
unfoldable pub cells_from : List ℤ → List ℕ → ℕ → ℕ → List Cell
cells_from l m p zero = []
cells_from l m p (suc n) = cell_at l m p ∷ cells_from l m (suc p) n

abbrev pub PLACES : ℕ
PLACES = 90

abbrev pub cells_in : List ℤ → List ℕ → List Cell
cells_in l m = cells_from l m 0 PLACES

-- a cell with another matrix, and with inequality k
abbrev pub with_matrix : Cell → List Bound → Cell
with_matrix c m = record { ineqs = c.ineqs; bounds = m }

abbrev pub with_ineq : Cell → ℕ → Expr → Cell
with_ineq c k e = record { ineqs = set c.ineqs k e; bounds = c.bounds }

-- the matrix at place p changed
abbrev pub on_matrix : List Cell → ℕ → (List Bound → List Bound) → List Cell
on_matrix cs p f = set cs p (with_matrix (get_or cs p no_cell) (f (get_or cs p no_cell).bounds))

-- entry k of the matrix at place p written, and inequality k there
abbrev pub put_bound : List Cell → ℕ → ℕ → Bound → List Cell
put_bound cs p k b = set cs p (with_matrix (get_or cs p no_cell) (set (get_or cs p no_cell).bounds k b))

abbrev pub put_ineq : List Cell → ℕ → ℕ → Expr → List Cell
put_ineq cs p k e = set cs p (with_ineq (get_or cs p no_cell) k e)

-- the mark of a bound
abbrev pub mark_by : Bool → Bool → ℕ
mark_by true true = 3
mark_by true false = 2
mark_by false true = 1
mark_by false false = 0

abbrev pub mark_of : Bound → ℕ
mark_of b = mark_by b.none b.strict

-- the zone of a cell, n inequalities of which count
abbrev pub zone_of : ℕ → Cell → Zone
zone_of n c = record { count = n; ineqs = c.ineqs; bounds = c.bounds }
