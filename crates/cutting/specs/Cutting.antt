-- The cutting of the ranges (paper 01, "Cutting the ranges"), for any number of parameters and clocks.
use Rattle.std.specs.Prelude.{◌≡◌, ◌⊎◌, List, [], ◌∷◌, ◌++◌, map, Bool, true, false, cond, ℕ, zero, suc, eqb, ltb, ℤ, length}
use Rattle.std.proofs.Math.Option.{Option}
use Rattle.std.proofs.Math.Option as option
use Rattle.dbm.specs.Matrix.{Matrix, delayed, resets_m}
use Rattle.expr.specs.Affine.{Affine, opposite}
use Rattle.weight.specs.Upper.{Upper, none}
use Rattle.expr.specs.Bounds.{zero_b, sum_b, tighter_b, Question, yes', no', ask}
use Rattle.expr.specs.Records.{bound_as, range_list}
use Rattle.valuations.specs.Valuations.{first}
use Rattle.expr.specs.declared.range.Range.{Range}
use Rattle.guards.specs.declared.Guard.{Guard}
use Rattle.sheet.specs.declared.Sheet.{Sheet}
use Rattle.timed.specs.Automaton.{route_of}
use Rattle.timed.specs.Steps.{Step, delay, guard, resets, steps_of}

-- a matrix of bounds
abbrev pub Bounds : Type 0
Bounds = Matrix (Upper Affine)

-- all entries zero, not strict
unfoldable pub start_b : Bounds
start_b i j = zero_b

-- a zone (paper: piece): its inequalities and its matrix
pub record Zone : Type 0 where
  pub ineqs : List Affine
  pub bounds : Bounds

-- ---- one guard (paper: limit) on one matrix: what the rules ask, in order, knowing nothing of inequalities

-- the part is cut; it stays, with a matrix; or an expression is asked ≥ 0. Example: 1 - 0 ≤ p on the start's matrix after a wait asks
-- -p - 1 (is p + (0, 1) tighter than zero?). If yes, it is `cut`; if no, p beats the none at (1, 0) with no test, and the entries follow:
-- -p - 1 is asked again for (0, 0), and so on to `keep`.
pub data Tree : Type 0 where
  cut : Tree
  keep : Bounds → Tree
  asks : Affine → (Bool → Tree) → Tree

-- a test of "tighter", then what follows
unfoldable pub tested : Question → (Bool → Tree) → Tree
tested yes' f = f true
tested no' f = f false
tested (ask e) f = asks e f

-- a place in a matrix
pub record Place : Type 0 where
  pub row : ℕ
  pub column : ℕ

-- the matrix with one entry put in
unfoldable pub put_entry : Place → Upper Affine → Bounds → Bounds
put_entry p b m i j = cond (eqb i p.row) (cond (eqb j p.column) b (m i j)) (m i j)

-- n places of row k, from column l on
unfoldable pub row_from : ℕ → ℕ → ℕ → List Place
row_from k l zero = []
row_from k l (suc n) = record { row = k; column = l } ∷ row_from k (suc l) n

-- n rows of w + 1 places, from row k on
unfoldable pub rows_from : ℕ → ℕ → ℕ → List Place
rows_from w k zero = []
rows_from w k (suc n) = row_from k 0 (suc w) ++ rows_from w (suc k) n

-- the places of clock 0 and w clocks, in row order
unfoldable pub places : ℕ → List Place
places w = rows_from w 0 (suc w)

-- rule (3): in row order, (k, l) takes (k, i) + e + (j, l) where that is tighter, old entries read throughout
unfoldable pub pushed : ℕ → ℕ → Upper Affine → Bounds → List Place → Bounds → Tree
pushed i j e old [] new = keep new
pushed i j e old (p ∷ ps) new =
    let t = sum_b (sum_b (old p.row i) e) (old j p.column) in
    tested (tighter_b t (old p.row p.column)) (λ b.
    pushed i j e old ps (cond b (put_entry p t new) new))

-- the three rules for a guard i - j with the bound e: (1) cut if e + (j, i) is tighter than zero, not strict; (2) the part stays if e
-- isn't tighter than (i, j); (3) else pushed
unfoldable pub guard_tree : ℕ → ℕ → ℕ → Upper Affine → Bounds → Tree
guard_tree w i j e m =
    tested (tighter_b (sum_b e (m j i)) zero_b) (λ void.
    cond void cut
    (tested (tighter_b e (m i j)) (λ tight.
    cond tight (pushed i j e m (places w) m) (keep m))))

-- ---- zones listed in order, or a refusal

-- the zones so far; or refusal 7 or 8 at a visit (moves made)
pub data Listing : Type 0 where
  listed : List Zone → Listing
  refused : ℕ → ℕ → Listing

-- the refusals of the cutting
abbrev pub SevenOrEight : ℕ → Type 0
SevenOrEight m = (m ≡ 7) ⊎ (m ≡ 8)

-- how many zones a limit may list, and how many inequalities a zone may have
abbrev pub ZONES : ℕ
ZONES = 32

abbrev pub INEQS : ℕ
INEQS = 24

-- no valuation of the ranges that meets the inequalities satisfies e as well
unfoldable pub never : List Range → List Affine → Affine → Bool
never rs is e = is_none (first rs (is ++ (e ∷ [])))
  where
    is_none : Option (List ℤ) → Bool
    is_none option.none = true
    is_none (option.some v) = false

-- a zone is listed, unless it would be the 33rd
unfoldable pub list_zone : ℕ → Zone → List Zone → Listing
list_zone visit z zs = cond (ltb (length zs) ZONES) (listed (zs ++ (z ∷ []))) (refused 7 visit)

-- the tree worked on a zone's inequalities, what it keeps being listed after what was listed so far. A test is settled if none or all of
-- the zone's valuations satisfy it, and nothing is added; otherwise it splits: the yes part gains the inequality, the no part its
-- opposite, and the yes part's whole outcome stands before the no part's. A refusal sticks.
unfoldable pub worked : List Range → ℕ → Tree → List Affine → Listing → Listing
worked rs visit cut is (listed zs) = listed zs
worked rs visit (keep m) is (listed zs) = list_zone visit (record { ineqs = is; bounds = m }) zs
worked rs visit (asks e f) is (listed zs) =
    cond (never rs is e) (worked rs visit (f false) is (listed zs))
    (cond (never rs is (opposite e)) (worked rs visit (f true) is (listed zs))
    (cond (ltb (length is) INEQS)
    (worked rs visit (f false) (is ++ (opposite e ∷ [])) (worked rs visit (f true) (is ++ (e ∷ [])) (listed zs)))
    (refused 8 visit)))
worked rs visit cut is (refused n k) = refused n k
worked rs visit (keep m) is (refused n k) = refused n k
worked rs visit (asks e f) is (refused n k) = refused n k

-- ---- the steps along a route

-- one guard over all zones in order
unfoldable pub guard_zones : List Range → ℕ → ℕ → Guard → List Zone → Listing → Listing
guard_zones rs visit w g [] o = o
guard_zones rs visit w g (z ∷ zs) o =
    guard_zones rs visit w g zs (worked rs visit (guard_tree w g.left g.right (bound_as g.bound) z.bounds) z.ineqs o)

-- a step on every zone's matrix
unfoldable pub on_bounds : (Bounds → Bounds) → List Zone → List Zone
on_bounds f zs = map (λ z. record { ineqs = z.ineqs; bounds = f z.bounds }) zs

-- one step on all zones, a guard with a listing of its own
unfoldable pub step_zones : List Range → ℕ → Step → List Zone → Listing
step_zones rs w delay zs = listed (on_bounds (delayed w none) zs)
step_zones rs w (guard visit g) zs = guard_zones rs visit w g zs (listed [])
step_zones rs w (resets bits) zs = listed (on_bounds (resets_m w bits w) zs)

-- what follows a listing that is not refused
abbrev pub and_then : Listing → (List Zone → Listing) → Listing
and_then (listed zs) f = f zs
and_then (refused n k) f = refused n k

-- steps in order
unfoldable pub cut_steps : List Range → ℕ → List Step → List Zone → Listing
cut_steps rs w [] zs = listed zs
cut_steps rs w (s ∷ steps) zs = and_then (step_zones rs w s zs) (cut_steps rs w steps)

-- one zone without inequalities, all entries zero, not strict
abbrev pub start_zone : Zone
start_zone = record { ineqs = []; bounds = start_b }

-- the zones along a route in order, or refusal 7 or 8, the first met
unfoldable pub zones_along : Sheet → List ℕ → Listing
zones_along s route = cut_steps (range_list s.ranges) s.clocks (steps_of s route) (start_zone ∷ [])

-- along the sheet's own route
unfoldable pub zones_of : Sheet → Listing
zones_of s = zones_along s (route_of s)
