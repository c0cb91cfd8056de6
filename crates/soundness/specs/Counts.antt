-- Kept is the number of valuations with a run, and cut of those without (paper 01, "Cutting the ranges").
use Rattle.std.specs.Prelude.{◌≡◌, List, ◌+◌}
use Rattle.valuations.specs.Valuations.{widths, valuations}
use Rattle.expr.specs.Records.{range_list}
use Rattle.sheet.specs.declared.Sheet.{Sheet}
use Rattle.sheet.specs.WellFormed.{WellFormed}
use Rattle.timed.specs.Runs.{Run}
use Rattle.cutting.specs.Cutting.{Zone, listed, zones_of}
use Rattle.cutting.specs.Kept.{Counted, kept_of, cut_of}

-- kept is the number of valuations of the ranges with a run
abbrev pub KeptCountsRuns : Type 0
KeptCountsRuns =
    (s : Sheet) → WellFormed s → (zs : List Zone) → zones_of s ≡ listed zs
    → Counted (Run s) (valuations (range_list s.ranges)) (kept_of (range_list s.ranges) zs)

-- cut is the number of those without
abbrev pub CutCountsTheRest : Type 0
CutCountsTheRest =
    (s : Sheet) → WellFormed s → (zs : List Zone) → zones_of s ≡ listed zs
    → Counted (λ v. Run s v → ⊥) (valuations (range_list s.ranges)) (cut_of (range_list s.ranges) zs)

-- together they are the product of the widths
abbrev pub KeptAndCut : Type 0
KeptAndCut =
    (s : Sheet) → WellFormed s → (zs : List Zone) → zones_of s ≡ listed zs
    → kept_of (range_list s.ranges) zs + cut_of (range_list s.ranges) zs ≡ widths (range_list s.ranges)
