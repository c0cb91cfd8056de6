-- The code's records of zones read back: which valuations a zone holds, its entries with a valuation put in, and how many valuations all
-- zones hold, are those of the cutting.
use Rattle.std.specs.Prelude.{◌≡◌, refl, List, [], ◌∷◌, map, ℕ, ◌+◌, ◌-◌, ◌≤◌, ℤ, length, take}
use Rattle.std.proofs.Common.{ap, ◌∙◌}
use Rattle.cutting.specs.Kept.{kept_of}
use Rattle.cutting.specs.Cutting as cutting
use Rattle.cutting.specs.Held.{holds, at}
use Rattle.expr.specs.Bounds.{at_v}
use Rattle.expr.specs.Ranges.{Inside}
use Rattle.expr.specs.Records.{affine, expr_of, bound_as, range_list, zero_expr}
use Rattle.valuations.specs.Valuations.{satisfies, first, count}
use Rattle.expr.specs.declared.bound.Bound.{Bound}
use Rattle.expr.specs.declared.number.Expr.{Expr}
use Rattle.expr.specs.declared.range.Ranges.{Ranges}
use Rattle.coded.specs.Records.{zone_of, zones_in}
use Rattle.coded.specs.Coded.{taken, entry_at}
use Rattle.coded.specs.CodedTests.{pad_at, pad_satisfies, pad_first, pad_count, inside_length}
use Rattle.zones.specs.Zone.{blank_zone}
use Rattle.constrain.specs.Rules.{entry_c}
use Rattle.zones.specs.declared.zone.Zone.{Zone}

-- the zones' valuations, zone by zone, as the code counts them
unfoldable pub kept_c : Ranges → List Zone → ℕ
kept_c b [] = 0
kept_c b (z ∷ zs) = count (range_list b) (map affine (take z.count z.ineqs)) + kept_c b zs

-- ---- one zone
-- its inequalities
pub ineqs_coded : (z : cutting.Zone) → take (zone_of z).count (zone_of z).ineqs ≡ map expr_of z.ineqs
unfolding zone_of
ineqs_coded z = taken expr_of zero_expr (24 - length z.ineqs) z.ineqs

-- it holds the same valuations
pub holds_coded : (b : Ranges) (z : cutting.Zone) (v : List ℤ) → Inside v (range_list b)
    → satisfies (map affine (take (zone_of z).count (zone_of z).ineqs)) v ≡ holds v z
holds_coded b z v h =
    ap (λ (l : List Expr). satisfies (map affine l) v) (ineqs_coded z) ∙ pad_satisfies z.ineqs v (inside_length v (range_list b) h)

-- its entries are the same at each
pub entry_coded : (b : Ranges) (z : cutting.Zone) (v : List ℤ) → Inside v (range_list b) → (i j : ℕ) → i ≤ 4 → j ≤ 4
    → at_v v (bound_as (entry_c (zone_of z).bounds i j)) ≡ at v z.bounds i j
unfolding zone_of at
entry_coded b z v h i j hi hj =
    ap (λ (e : Bound). at_v v (bound_as e)) (entry_at z.bounds i j hi hj) ∙ pad_at (z.bounds i j) v (inside_length v (range_list b) h)

-- it holds as many of the ranges
pub count_coded : (b : Ranges) (z : cutting.Zone)
    → count (range_list b) (map affine (take (zone_of z).count (zone_of z).ineqs)) ≡ count (range_list b) z.ineqs
count_coded b z = ap (λ (l : List Expr). count (range_list b) (map affine l)) (ineqs_coded z) ∙ pad_count b z.ineqs

-- and the same is the first
pub first_coded : (b : Ranges) (z : cutting.Zone)
    → first (range_list b) (map affine (take (zone_of z).count (zone_of z).ineqs)) ≡ first (range_list b) z.ineqs
first_coded b z = ap (λ (l : List Expr). first (range_list b) (map affine l)) (ineqs_coded z) ∙ pad_first b z.ineqs

-- ---- all zones
pub list_coded : (zs : List cutting.Zone) → take (length zs) (zones_in zs) ≡ map zone_of zs
unfolding zones_in
list_coded zs = taken zone_of blank_zone (32 - length zs) zs

kept_map : (b : Ranges) (zs : List cutting.Zone) → kept_c b (map zone_of zs) ≡ kept_of (range_list b) zs
unfolding kept_c kept_of
kept_map b [] = refl
kept_map b (z ∷ zs) = rw (count_coded b z, kept_map b zs) refl

-- whatever the zones are
pub kept_in : (b : Ranges) (zs : List cutting.Zone) → kept_c b (take (length zs) (zones_in zs)) ≡ kept_of (range_list b) zs
kept_in b zs = ap (kept_c b) (list_coded zs) ∙ kept_map b zs
