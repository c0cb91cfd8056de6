-- The code's reply for one guard on one zone (crate split, `cut_one`): it is what the cutting's rule gives, test for test, and its counts
-- are below the ceiling (paper 02, request (j)). Its proof is in OneGuardProof.
use Rattle.std.specs.Prelude.{◌≡◌, ℕ, ◌≤◌, length}
use mathlib.Core.List.{List, Memᴰ}
use Rattle.cutting.specs.Cutting as cutting
use Rattle.cutting.specs.Ways.{Outcome, guard_ways}
use Rattle.cutting.specs.Ceiling.{CEILING}
use Rattle.expr.specs.Records.{bound_as, range_list}
use Rattle.expr.specs.declared.range.Ranges.{Ranges}
use Rattle.guards.specs.Right.{GuardRight}
use Rattle.guards.specs.declared.Guard.{Guard}
use Rattle.sizes.specs.Sizes.{AtMostM, ENTRY, SmallGuard}
use Rattle.sheet.specs.WellFormed.{WellFormed}
use Rattle.sheet.specs.declared.Sheet.{Sheet}
use Rattle.timed.specs.Lists.{AllOf}
use Rattle.split.specs.Guarded.{one_c}
use Rattle.zones.specs.declared.zone.Zone.{Zone}
use Rattle.coded.specs.Records.{zone_of}
use Rattle.coded.specs.Counts.{coded_ways}

-- a guard and a zone of a sheet of w clocks, with numbers as small as those of a readable sheet (request (n))
pub record Fits (w : ℕ) (g : Guard) (z : cutting.Zone) : Type 0 where
  pub four : w ≤ 4
  pub guard : SmallGuard w g
  pub entries : AtMostM ENTRY w z.bounds

-- what the rule of paper 01 gives
abbrev pub ruled : Ranges → ℕ → Guard → ℕ → cutting.Zone → Outcome
ruled b w g visit z = guard_ways (range_list b) visit w g.left g.right (bound_as g.bound) z

pub record OneGuard : Type 0 where
  -- every zone along a route of a readable sheet, of at most 32 moves, is such a one, with every guard that such a sheet may have
  pub fits : (s : Sheet) → WellFormed s → (route : List ℕ) → length route ≤ 32 → (zs : List cutting.Zone)
      → cutting.zones_along s route ≡ cutting.listed zs → (z : cutting.Zone) → Memᴰ z zs
      → (g : Guard) → GuardRight s.parameters s.clocks g → Fits s.clocks g z
  -- the zones with their counts, or the refusal, are those of the rule
  pub reply : (b : Ranges) (w : ℕ) (g : Guard) (visit : ℕ) (z : cutting.Zone) → Fits w g z
      → one_c b w g visit (zone_of z) ≡ coded_ways visit (ruled b w g visit z)
  -- so each count is at most (w + 1)² + 2
  pub low : (b : Ranges) (w : ℕ) (g : Guard) (visit : ℕ) (z : cutting.Zone) → Fits w g z
      → AllOf (λ k. k ≤ CEILING w) (one_c b w g visit (zone_of z)).tests
  -- and at most 27 for every call, whatever the ranges, the clocks, the guard and the zone
  pub few : (b : Ranges) (clocks : ℕ) (g : Guard) (visit : ℕ) (z : Zone) → AllOf (λ k. k ≤ 27) (one_c b clocks g visit z).tests
