-- The code's records of what the cutting lists: of a matrix its 25 entries in row order, of a zone its inequalities and blank places up
-- to 24, of a listing its zones and blank places up to 32.
use Rattle.std.specs.Prelude.{List, [], ◌∷◌, ◌++◌, map, ℕ, ◌-◌, length, replicate}
use Rattle.cutting.specs.Cutting.{Bounds, Listing, listed, refused}
use Rattle.cutting.specs.Cutting as cutting
use Rattle.expr.specs.Records.{expr_of, bound_of, zero_expr}
use Rattle.expr.specs.declared.bound.Bound.{Bound}
use Rattle.zones.specs.Zone.{blank_zone}
use Rattle.zones.specs.declared.zone.Zone.{Zone}
use Rattle.zones.specs.declared.zone.Zones.{Zones}

-- row k of a matrix
unfoldable pub row_of : Bounds → ℕ → List Bound
row_of m k = bound_of (m k 0) ∷ bound_of (m k 1) ∷ bound_of (m k 2) ∷ bound_of (m k 3) ∷ bound_of (m k 4) ∷ []

-- a matrix: rows 0 to 4
unfoldable pub bounds_of : Bounds → List Bound
bounds_of m = row_of m 0 ++ row_of m 1 ++ row_of m 2 ++ row_of m 3 ++ row_of m 4

-- a zone
unfoldable pub zone_of : cutting.Zone → Zone
zone_of z =
    record {
      count = length z.ineqs;
      ineqs = map expr_of z.ineqs ++ replicate (24 - length z.ineqs) zero_expr;
      bounds = bounds_of z.bounds;
    }

-- zones in order
unfoldable pub zones_in : List cutting.Zone → List Zone
zones_in zs = map zone_of zs ++ replicate (32 - length zs) blank_zone

-- a listing, at a visit; a refusal has a visit of its own
unfoldable pub coded : ℕ → Listing → Zones
coded visit (listed zs) = record { refusal = 0; visit = visit; count = length zs; list = zones_in zs }
coded visit (refused n k) = record { refusal = n; visit = k; count = 0; list = replicate 32 blank_zone }
