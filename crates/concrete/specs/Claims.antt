-- What Sweep's rules are worth (paper 01, "Runs"): for every accepted sheet and every valuation, Sweep of `Walk` is void exactly if there
-- is no run, and else its entries are the tightest bounds on the end states of the runs. `Proofs` has the proofs.
use Rattle.std.specs.Prelude.{◌≡◌, ◌↔◌, List, ℕ, ◌≤◌, ℤ}
use Rattle.dbm.specs.Matrix.{Matrix, void, kept, Outside}
use Rattle.weight.specs.Upper.{Upper, zero_w}
use Rattle.sheet.specs.declared.Sheet.{Sheet}
use Rattle.sheet.specs.WellFormed.{WellFormed}
use Rattle.timed.specs.Runs.{Run, RunAlong, Tightest, TightestAlong}
use Rattle.concrete.specs.Walk.{sweep_along, sweep_at}

-- along any route: void exactly if no run exists, else each entry is the tightest bound on that difference over the end states of all runs
abbrev pub AlongRight : Sheet → List ℕ → List ℤ → Type 0
AlongRight s route v =
    ((sweep_along s route v ≡ void) ↔ (RunAlong s route v → ⊥))
    × ((m : Matrix (Upper ℤ)) → sweep_along s route v ≡ kept m
    → (i j : ℕ) → i ≤ s.clocks → j ≤ s.clocks → TightestAlong s route v i j (m i j))

-- along the sheet's own route: Sweep is void exactly if no run exists
abbrev pub VoidIffNoRun : Type 0
VoidIffNoRun = (s : Sheet) → WellFormed s → (v : List ℤ) → (sweep_at s v ≡ void) ↔ (Run s v → ⊥)

-- else each entry (i, j), for clock 0 and the sheet's clocks, is the tightest bound on clock i - clock j over the end states of all runs
abbrev pub EntriesTightest : Type 0
EntriesTightest =
    (s : Sheet) → WellFormed s → (v : List ℤ) (m : Matrix (Upper ℤ)) → sweep_at s v ≡ kept m →
    (i j : ℕ) → i ≤ s.clocks → j ≤ s.clocks → Tightest s v i j (m i j)

-- the other entries are padding: zero, not strict
abbrev pub Padded : Type 0
Padded =
    (s : Sheet) (v : List ℤ) (m : Matrix (Upper ℤ)) → sweep_at s v ≡ kept m →
    (i j : ℕ) → Outside s.clocks i j → m i j ≡ zero_w
