-- The code's record of what one guard leads to on one zone (request (j)): the zones, and beside them their counts of tests.
use Rattle.std.specs.Prelude.{List, ◌++◌, map, ℕ, ◌-◌, length, replicate}
use Rattle.cutting.specs.Ways.{Outcome, leads, refuses, without_counts}
use Rattle.split.specs.declared.list.Counted.{Counted}
use Rattle.coded.specs.Records.{coded}

-- the counts of the zones in order, zeros up to 32
abbrev pub counts_in : Outcome → List ℕ
counts_in (leads ws) = map (λ w. w.tests) ws ++ replicate (32 - length ws) 0
counts_in (refuses n k) = replicate 32 0

-- the zones or the refusal, at a visit, and the counts
unfoldable pub coded_ways : ℕ → Outcome → Counted
coded_ways visit o = record { zones = coded visit (without_counts o); tests = counts_in o }
