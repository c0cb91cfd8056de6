-- Runs (paper 01, "Runs", with paper 02, request (b); document 000, definitions 2.1 and 2.2, over whole numbers), from the sheet as it was
-- read, for any number of clocks. It uses nothing of Sweep or Windows, nor of the steps that they make (Steps).
use Rattle.std.specs.Prelude.{◌≡◌, List, [], ◌∷◌, Bool, true, false, cond, ℕ, zero, suc, ◌/◌, ◌%◌, ◌^◌, ◌≤◌, eqb, ℤ, pos, ◌+ℤ◌, ◌-ℤ◌, ◌*ℤ◌, ◌≤ℤ◌, ◌<ℤ◌}
use Prim.{Unit}
use Rattle.expr.specs.Affine.{value}
use Rattle.weight.specs.Upper.{Upper, none, upper}
use Rattle.expr.specs.Records.{affine}
use Rattle.guards.specs.declared.Guard.{Guard}
use Rattle.sheet.specs.declared.Sheet.{Sheet}
use Rattle.timed.specs.Automaton.{invariants, guards_of, transition_at, route_of}

-- the values of the clocks (paper: watches), in parts; clock 0 is always zero
abbrev pub Clocks : Type 0
Clocks = ℕ → ℤ

-- all clocks start at 0
unfoldable pub begin : Clocks
begin i = pos 0

-- a wait of d parts: every clock but clock 0 grows by that
unfoldable pub waited : ℕ → Clocks → Clocks
waited d x zero = x zero
waited d x (suc i) = x (suc i) +ℤ pos d

-- the reset clocks become 0: bit i - 1 for clock i
unfoldable pub after_resets : ℕ → Clocks → Clocks
after_resets bits x zero = x zero
after_resets bits x (suc i) = cond (eqb (bits / 2 ^ i % 2) 1) (pos 0) (x (suc i))

-- ≤ or, where it is strict, <
abbrev pub Compared : Bool → ℤ → ℤ → Type 0
Compared false a b = a ≤ℤ b
Compared true a b = a <ℤ b

-- a guard (paper: limit) compares parts with D times its bound
abbrev pub Holds : ℕ → List ℤ → Clocks → Guard → Type 0
Holds D v x g = Compared g.bound.strict (x g.left -ℤ x g.right) (pos D *ℤ value (affine g.bound.expr) v)

-- all of the guards hold
abbrev pub AllHold : ℕ → List ℤ → Clocks → List Guard → Type 0
AllHold D v x [] = Unit {0}
AllHold D v x (g ∷ gs) = Holds D v x g × AllHold D v x gs

-- Under the valuation v, with D parts to a minute, from location l with clocks x, along the rest of a route, to the end state y: a wait,
-- at whose end the invariants hold; then the next transition's guards hold, its reset clocks become 0, on arrival the invariants of the
-- location that it goes to hold, and so on from there. After the last transition there is one more wait, ended by invariants; that is the
-- end state.
unfoldable pub Leads : Sheet → List ℤ → ℕ → ℕ → List ℕ → Clocks → Clocks → Type 0
Leads s v D l [] x y = (d : ℕ) × AllHold D v (waited d x) (invariants s l) × ((i : ℕ) → y i ≡ waited d x i)
Leads s v D l (n ∷ ns) x y =
    (d : ℕ) × AllHold D v (waited d x) (invariants s l) × AllHold D v (waited d x) (guards_of s n)
    × AllHold D v (after_resets (transition_at s n).resets (waited d x)) (invariants s (transition_at s n).to)
    × Leads s v D (transition_at s n).to ns (after_resets (transition_at s n).resets (waited d x)) y

-- a run along a route under the valuation v: it picks D ≥ 1, starts in location 0 with all clocks 0, where the invariants hold, and follows
-- the route to its end state
pub record RunAlong (s : Sheet) (route : List ℕ) (v : List ℤ) : Type 0 where
  pub parts : ℕ
  pub some_part : 1 ≤ parts
  pub starts : AllHold parts v begin (invariants s 0)
  pub end : Clocks
  pub leads : Leads s v parts 0 route begin end

-- a run along the sheet's own route
abbrev pub Run : Sheet → List ℤ → Type 0
Run s v = RunAlong s (route_of s) v

-- the difference of clocks i and j in a run's end state
abbrev pub difference : {s : Sheet} {route : List ℕ} {v : List ℤ} → ℕ → ℕ → RunAlong s route v → ℤ
difference i j r = r.end i -ℤ r.end j

-- D times a number of minutes
abbrev pub minutes : {s : Sheet} {route : List ℕ} {v : List ℤ} → RunAlong s route v → ℤ → ℤ
minutes r c = pos r.parts *ℤ c

-- the weight is the tightest bound on clock i - clock j over the end states of all runs along the route under v:
-- ≤ c is met by all and reached by one; < c is met by all, and for every N ≥ 1 some run ends less than 1/N below c;
-- none: for every whole N some run ends above N
abbrev pub TightestAlong : Sheet → List ℕ → List ℤ → ℕ → ℕ → Upper ℤ → Type 0
TightestAlong s route v i j none = (N : ℤ) → (r : RunAlong s route v) × (minutes r N <ℤ difference i j r)
TightestAlong s route v i j (upper false c) =
    ((r : RunAlong s route v) → difference i j r ≤ℤ minutes r c) × ((r : RunAlong s route v) × (difference i j r ≡ minutes r c))
TightestAlong s route v i j (upper true c) =
    ((r : RunAlong s route v) → difference i j r <ℤ minutes r c)
    × ((N : ℕ) → 1 ≤ N → (r : RunAlong s route v) × ((pos N *ℤ (minutes r c -ℤ difference i j r)) <ℤ pos r.parts))

-- the same along the sheet's own route
abbrev pub Tightest : Sheet → List ℤ → ℕ → ℕ → Upper ℤ → Type 0
Tightest s v i j b = TightestAlong s (route_of s) v i j b
