-- Zones as the code's records: a blank one, and one more inequality.
use Rattle.std.specs.Prelude.{cond, suc, ltb, set, replicate}
use Rattle.expr.specs.Records.{zero_expr, zero_bound}
use Rattle.expr.specs.declared.number.Expr.{Expr}
use Rattle.zones.specs.declared.zone.Zone.{Zone}

-- no inequalities, all entries zero, not strict
abbrev pub blank_zone : Zone
blank_zone = record { count = 0; ineqs = replicate 24 zero_expr; bounds = replicate 25 zero_bound }

-- the zone with one more inequality
unfoldable pub plus_c : Zone → Expr → Zone
plus_c z e = record { count = suc z.count; ineqs = set z.ineqs z.count e; bounds = z.bounds }

-- one with 24 stays as it is
unfoldable pub more_c : Zone → Expr → Zone
more_c z e = cond (ltb z.count 24) (plus_c z e) z
