-- What the zones are worth along the sheet's own route, for every sheet that is well formed and not refused, and every valuation in its
-- ranges: a zone holds it exactly if a run follows the route under it, and the zone's matrix, with it put in, is Sweep's, its entries the
-- tightest bounds.
use Rattle.std.specs.Prelude.{◌≡◌, ◌↔◌, List, ℕ, ◌≤◌, ℤ}
use Rattle.dbm.specs.Matrix.{kept}
use Rattle.sheet.specs.declared.Sheet.{Sheet}
use Rattle.sheet.specs.WellFormed.{WellFormed}
use Rattle.concrete.specs.Walk.{sweep_at}
use Rattle.timed.specs.Runs.{Run, Tightest}
use Rattle.cutting.specs.Cutting.{Zone, listed, zones_of}
use Rattle.cutting.specs.Held.{HeldBy, InRanges, at}

-- a zone holds v exactly if a run follows the route under v
abbrev pub HeldIffRun : Type 0
HeldIffRun = (s : Sheet) → WellFormed s → (zs : List Zone) → zones_of s ≡ listed zs → (v : List ℤ) → InRanges s v → HeldBy v zs ↔ Run s v

-- a zone that holds v has, with v put in, Sweep's matrix
abbrev pub MatricesAgree : Type 0
MatricesAgree =
    (s : Sheet) (zs : List Zone) → zones_of s ≡ listed zs → (v : List ℤ) → InRanges s v → (h : HeldBy v zs)
    → sweep_at s v ≡ kept (at v h.zone.bounds)

-- and each of its entries, for clock 0 and the sheet's clocks, is the tightest bound on clock i - clock j over the end states of all runs
abbrev pub ZonesTightest : Type 0
ZonesTightest =
    (s : Sheet) → WellFormed s → (zs : List Zone) → zones_of s ≡ listed zs → (v : List ℤ) → InRanges s v → (h : HeldBy v zs)
    → (i j : ℕ) → i ≤ s.clocks → j ≤ s.clocks → Tightest s v i j (at v h.zone.bounds i j)
