-- How large the numbers of the cutting get (paper 02, request (n), "Refusal 9 can go"), for any number of parameters and clocks: after n
-- delays (paper: waits), with guards (paper: limits) whose numbers are at most 1,000 in size, an entry's numbers are at most 1,000 · n. A
-- readable sheet has at most 33 delays: 33,000, and so 67,000 for the sums of the rules and 100,001 for their tests. The proof is in
-- SizesProof.
use Rattle.std.specs.Prelude.{◌≡◌, Bool, ℕ, ◌*◌, ◌≤◌, ℤ, nat_abs, length}
use mathlib.Core.List.{List, [], ◌∷◌, ◌++◌, Memᴰ}
use Rattle.cutting.specs.Cutting.{Bounds, Zone, start_zone, Tree, cut, keep, asks, guard_tree, listed, cut_steps}
use Rattle.cutting.specs.Every.{GuardIs}
use Rattle.expr.specs.Affine.{Affine}
use Rattle.expr.specs.Bounds.{sum_b}
use Rattle.expr.specs.Ranges.{Inside}
use Rattle.expr.specs.Records.{bound_as, range_list}
use Rattle.expr.specs.declared.range.Range.{Range}
use Rattle.guards.specs.declared.Guard.{Guard}
use Rattle.sheet.specs.WellFormed.{WellFormed}
use Rattle.sheet.specs.declared.Sheet.{Sheet}
use Rattle.timed.specs.Lists.{AllOf}
use Rattle.timed.specs.Steps.{Step, steps_of, delays}
use Rattle.weight.specs.Upper.{Upper, none, upper}

-- ---- sizes
-- each number of an expression is at most B in size
pub record AtMostE (B : ℕ) (e : Affine) : Type 0 where
  pub constant : nat_abs e.constant ≤ B
  pub coefs : AllOf (λ (c : ℤ). nat_abs c ≤ B) e.coefs

-- so is each of a bound's, if it has any
abbrev pub AtMostB : ℕ → Upper Affine → Type 0
AtMostB B none = Unit {0}
AtMostB B (upper s e) = AtMostE B e

-- of all entries of a matrix for w clocks
abbrev pub AtMostM : ℕ → ℕ → Bounds → Type 0
AtMostM B w m = (k l : ℕ) → k ≤ w → l ≤ w → AtMostB B (m k l)

-- of every test that a tree asks, whatever the answers before it
abbrev pub AsksAtMost : ℕ → Tree → Type 0
AsksAtMost B cut = Unit {0}
AsksAtMost B (keep m) = Unit {0}
AsksAtMost B (asks e f) = AtMostE B e × ((b : Bool) → AsksAtMost B (f b))

-- ---- the limits
abbrev pub LIMIT : ℕ
LIMIT = 1000

abbrev pub ENTRY : ℕ
ENTRY = 33000

abbrev pub SUM : ℕ
SUM = 67000

abbrev pub TEST : ℕ
TEST = 100001

-- a guard for w clocks, whose numbers are at most 1,000
pub record SmallGuard (w : ℕ) (g : Guard) : Type 0 where
  pub left : g.left ≤ w
  pub right : g.right ≤ w
  pub numbers : AtMostB LIMIT (bound_as g.bound)

-- the sums and the tests of a guard on a matrix
pub record SmallRules (w : ℕ) (g : Guard) (m : Bounds) : Type 0 where
  -- rule (1): e + (j, i)
  pub back : AtMostB SUM (sum_b (bound_as g.bound) (m g.right g.left))
  -- rule (3): (k, i) + e, and with (j, l)
  pub first : (k : ℕ) → k ≤ w → AtMostB SUM (sum_b (m k g.left) (bound_as g.bound))
  pub through : (k l : ℕ) → k ≤ w → l ≤ w → AtMostB SUM (sum_b (sum_b (m k g.left) (bound_as g.bound)) (m g.right l))
  -- every test of the three rules
  pub tests : AsksAtMost TEST (guard_tree w g.left g.right (bound_as g.bound) m)

-- ---- the statement
pub record NumbersSmall : Type 0 where
  -- any list of steps: what it lists has entries of at most 1,000 for each delay
  pub steps : (rs : List Range) (v : List ℤ) → Inside v rs → (w : ℕ) (done : List Step) → AllOf (GuardIs (SmallGuard w)) done
      → (zs : List Zone) → cut_steps rs w done (start_zone ∷ []) ≡ listed zs → (z : Zone) → Memᴰ z zs
      → AtMostM (LIMIT * delays done) w z.bounds
  -- a guard on such a zone, after 33 delays at most
  pub rules : (w : ℕ) (g : Guard) → SmallGuard w g → (m : Bounds) → AtMostM ENTRY w m → SmallRules w g m
  -- a readable sheet: every guard of every route, and what is listed after any part of a route of at most 32 moves
  pub guards : (s : Sheet) → WellFormed s → (route : List ℕ) → AllOf (GuardIs (SmallGuard s.clocks)) (steps_of s route)
  pub sheets : (s : Sheet) → WellFormed s → (route : List ℕ) → length route ≤ 32 → (done rest : List Step)
      → steps_of s route ≡ done ++ rest
      → (zs : List Zone) → cut_steps (range_list s.ranges) s.clocks done (start_zone ∷ []) ≡ listed zs → (z : Zone) → Memᴰ z zs
      → AtMostM ENTRY s.clocks z.bounds
