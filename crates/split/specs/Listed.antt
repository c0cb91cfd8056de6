-- Zones in order with their counts of tests as the code's records: none yet, one more, or a refusal.
use Rattle.std.specs.Prelude.{cond, ℕ, suc, ltb, eqb, set, replicate}
use Rattle.split.specs.declared.list.Counted.{Counted}
use Rattle.zones.specs.Zone.{blank_zone}
use Rattle.zones.specs.declared.zone.Zone.{Zone}
use Rattle.zones.specs.declared.zone.Zones.{Zones}

-- no zones, with a refusal or none (0), at a visit
abbrev pub nothing_at : ℕ → ℕ → Counted
nothing_at n visit =
    record { zones = record { refusal = n; visit = visit; count = 0; list = replicate 32 blank_zone }; tests = replicate 32 0 }

-- no zones yet, at a visit
unfoldable pub none_at : ℕ → Counted
none_at visit = nothing_at 0 visit

-- refused by a number, unless it was refused before
unfoldable pub refused_c : ℕ → Counted → Counted
refused_c n out = cond (eqb out.zones.refusal 0) (nothing_at n out.zones.visit) out

-- zones with one more
abbrev pub added_c : Zone → Zones → Zones
added_c z zs = record { refusal = zs.refusal; visit = zs.visit; count = suc zs.count; list = set zs.list zs.count z }

-- one more zone, with its count of tests, unless it would be the 33rd
unfoldable pub list_c : Zone → ℕ → Counted → Counted
list_c z k out =
    cond (eqb out.zones.refusal 0)
    (cond (ltb out.zones.count 32)
    (record { zones = added_c z out.zones; tests = set out.tests out.zones.count k })
    (refused_c 7 out))
    (refused_c 7 out)
