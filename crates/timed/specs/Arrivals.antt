-- What request (b) of paper 02 made of runs. Paper 01 had the invariants judged at the end of each stay only (`LeadsAtEnds`, `RunAtEnds`).
-- `ArrivalsRight` says that the runs are exactly those of these whose start and arrivals meet the invariants as well. ArrivalsProof has
-- the proof.
use Rattle.std.specs.Prelude.{◌≡◌, List, [], ◌∷◌, ℕ, ◌≤◌, ℤ}
use Prim.{Unit}
use Rattle.sheet.specs.declared.Sheet.{Sheet}
use Rattle.timed.specs.Automaton.{invariants, guards_of, transition_at}
use Rattle.timed.specs.Runs.{Clocks, begin, waited, after_resets, AllHold, Leads}

-- paper 01's rule: as Leads, with nothing asked on arrival
unfoldable pub LeadsAtEnds : Sheet → List ℤ → ℕ → ℕ → List ℕ → Clocks → Clocks → Type 0
LeadsAtEnds s v D l [] x y = (d : ℕ) × AllHold D v (waited d x) (invariants s l) × ((i : ℕ) → y i ≡ waited d x i)
LeadsAtEnds s v D l (n ∷ ns) x y =
    (d : ℕ) × AllHold D v (waited d x) (invariants s l) × AllHold D v (waited d x) (guards_of s n)
    × LeadsAtEnds s v D (transition_at s n).to ns (after_resets (transition_at s n).resets (waited d x)) y

-- a run by paper 01's rule
pub record RunAtEnds (s : Sheet) (route : List ℕ) (v : List ℤ) : Type 0 where
  pub parts : ℕ
  pub some_part : 1 ≤ parts
  pub end : Clocks
  pub leads : LeadsAtEnds s v parts 0 route begin end

-- at every arrival, after the resets, the invariants of the location that the transition goes to hold
unfoldable pub ArrivalsMeet : (s : Sheet) (v : List ℤ) (D l : ℕ) (ns : List ℕ) (x y : Clocks) → LeadsAtEnds s v D l ns x y → Type 0
unfolding LeadsAtEnds
ArrivalsMeet s v D l [] x y r = Unit {0}
ArrivalsMeet s v D l (n ∷ ns) x y (d, h, g, r) =
    AllHold D v (after_resets (transition_at s n).resets (waited d x)) (invariants s (transition_at s n).to)
    × ArrivalsMeet s v D (transition_at s n).to ns (after_resets (transition_at s n).resets (waited d x)) y r

-- and at the start those of location 0
abbrev pub StartMeets : (s : Sheet) (route : List ℕ) (v : List ℤ) → RunAtEnds s route v → Type 0
StartMeets s route v r = AllHold r.parts v begin (invariants s 0)

-- a run without what it says of arrivals: the same waits
unfoldable pub leads_at_ends : (s : Sheet) (v : List ℤ) (D l : ℕ) (ns : List ℕ) (x y : Clocks) → Leads s v D l ns x y
    → LeadsAtEnds s v D l ns x y
unfolding Leads LeadsAtEnds
leads_at_ends s v D l [] x y r = r
leads_at_ends s v D l (n ∷ ns) x y (d, h, g, a, r) =
    (d, h, g, leads_at_ends s v D (transition_at s n).to ns (after_resets (transition_at s n).resets (waited d x)) y r)
