-- What every zone has along the way, whatever the steps: P n of every zone after n delays, if the start has it and the steps keep it. At
-- most 32 zones are listed, and a refusal is 7 or 8. Shape, Numbered and FirstHeld are instances in which P is a part for the inequalities
-- and a part for the matrix, and the delays do not count; crate sizes has one in which they do.
use Rattle.std.specs.Prelude.{◌≡◌, ◌⊎◌, Bool, ℕ, suc, ◌≤◌, ◌<◌, length}
use Rattle.std.proofs.Math.Path.{subst}
use Rattle.std.proofs.Common.{sym, inr}
use Rattle.std.proofs.Math.Logic.{inl}
use mathlib.Core.List.Memᴰ
use mathlib.Core.List.{List, [], ◌∷◌, ◌++◌, Memᴰ}
use Rattle.std.proofs.Math.Bool.{true, false}
use Rattle.dbm.specs.Matrix.{delayed, resets_m}
use Rattle.expr.specs.Affine.{Affine, opposite}
use Rattle.weight.specs.Upper.{Upper, none}
use Rattle.expr.specs.Records.{bound_as}
use Rattle.expr.specs.declared.range.Range.{Range}
use Rattle.guards.specs.declared.Guard.{Guard}
use Rattle.timed.specs.Lists.{AllOf}
use Rattle.timed.specs.Steps.{Step, delay, guard, resets}
use Rattle.cutting.specs.Cutting.{Bounds, Zone, Tree, cut, keep, asks, guard_tree, Listing, listed, refused, INEQS, ZONES}
use Rattle.cutting.specs.Cutting.{never, SevenOrEight}

-- one of a list has what all of it have
pub one_of : {A : Type 0} (P : A → Type 0) (l : List A) → AllOf P l → (x : A) → Memᴰ x l → P x
one_of P [] a x i = absurd (Memᴰ.not-nil i)
one_of P (y ∷ l) a x i = by (Memᴰ.cases_cons i) (one_of P l a.1 x)
  where
    by : (x ≡ y) ⊎ Memᴰ x l → (Memᴰ x l → P x) → P x
    by (inl e) ih = subst P (sym e) a.0
    by (inr k) ih = ih k

-- a listing of zones with P, 32 at most, or a refusal
abbrev pub Right : (Zone → Type 0) → Listing → Type 0
Right P (listed zs) = (length zs ≤ ZONES) × AllOf P zs
Right P (refused n k) = SevenOrEight n

abbrev pub zone : List Affine → Bounds → Zone
zone is m = record { ineqs = is; bounds = m }

-- every zone that the tree lists, worked on these inequalities, has P: for each test, as it is settled or split
abbrev pub Leads : List Range → (Zone → Type 0) → Tree → List Affine → Type 0
Leads rs P cut is = Unit {0}
Leads rs P (keep m) is = P (record { ineqs = is; bounds = m })
Leads rs P (asks e f) is =
    (never rs is e ≡ true → Leads rs P (f false) is)
    × (never rs is (opposite e) ≡ true → Leads rs P (f true) is)
    × (length is < INEQS → never rs is e ≡ false → never rs is (opposite e) ≡ false
    → Leads rs P (f true) (is ++ (e ∷ [])) × Leads rs P (f false) (is ++ (opposite e ∷ [])))

-- ---- steps
-- the steps keep P, for w clocks and guards that have G
pub record Lasting (rs : List Range) (w : ℕ) (G : Guard → Type 0) (P : ℕ → Zone → Type 0) : Type 0 where
  pub guards : (n : ℕ) (g : Guard) → G g → (z : Zone) → P n z
      → Leads rs (P n) (guard_tree w g.left g.right (bound_as g.bound) z.bounds) z.ineqs
  pub delays : (n : ℕ) (z : Zone) → P n z → P (suc n) (record { ineqs = z.ineqs; bounds = delayed w none z.bounds })
  pub resets : (n bits : ℕ) (z : Zone) → P n z → P n (record { ineqs = z.ineqs; bounds = resets_m w bits w z.bounds })

-- a step's guard has G, if it has a guard
abbrev pub GuardIs : (Guard → Type 0) → Step → Type 0
GuardIs G delay = Unit {0}
GuardIs G (guard visit g) = G g
GuardIs G (resets bits) = Unit {0}

-- ---- where the inequalities and the matrix have each a part of their own, whatever the guards and the delays

-- every matrix that the tree keeps has M
abbrev pub Leaves : (Bounds → Type 0) → Tree → Type 0
Leaves M cut = Unit {0}
Leaves M (keep m) = M m
Leaves M (asks e f) = (b : Bool) → Leaves M (f b)

-- the rules for w clocks keep M
pub record LastingM (w : ℕ) (M : Bounds → Type 0) : Type 0 where
  pub guards : (i j : ℕ) (e : Upper Affine) (m : Bounds) → M m → Leaves M (guard_tree w i j e m)
  pub delays : (m : Bounds) → M m → M (delayed w none m)
  pub resets : (bits : ℕ) (m : Bounds) → M m → M (resets_m w bits w m)

-- both parts of a split have I
abbrev pub Splits : List Range → (List Affine → Type 0) → Type 0
Splits rs I =
    (is : List Affine) (e : Affine) → I is → length is < INEQS → never rs is e ≡ false → never rs is (opposite e) ≡ false
    → I (is ++ (e ∷ [])) × I (is ++ (opposite e ∷ []))

-- a zone whose inequalities have I and whose matrix has M
abbrev pub Has : (List Affine → Type 0) → (Bounds → Type 0) → Zone → Type 0
Has I M z = I z.ineqs × M z.bounds

-- nothing is asked of a matrix, and every tree keeps that
abbrev pub AnyMatrix : Bounds → Type 0
AnyMatrix m = Unit {0}
