-- The first valuation of a zone (paper 02, request (c), "A setting to start from"), and that every listed zone has one. Its proof is in
-- FirstHeldProof.
use Rattle.std.specs.Prelude.{◌≡◌, ℕ, ℤ}
use mathlib.Core.List.{List, Memᴰ}
use Rattle.expr.specs.Records.{range_list}
use Rattle.valuations.specs.First.{IsFirst}
use Rattle.valuations.specs.Valuations.{first, numbers_in}
use Rattle.expr.specs.declared.range.Range.{Range}
use Rattle.sheet.specs.declared.Sheet.{Sheet}
use Rattle.cutting.specs.Cutting.{Zone, listed, zones_along, zones_of}
use Rattle.cutting.specs.Held.{InRanges}

-- the first valuation of the ranges that a zone holds, comparing parameter 1, then 2, then 3, smaller first
unfoldable pub first_held : List Range → Zone → List ℤ
first_held rs z = numbers_in (first rs z.ineqs)

-- it is that, of every zone that is listed, if the ranges have a valuation at all: so every zone holds one
abbrev pub StartsFirst : Sheet → Zone → Type 0
StartsFirst s z = IsFirst (range_list s.ranges) z.ineqs (first_held (range_list s.ranges) z)

-- ---- the statement, along any route and along the sheet's own
abbrev pub AlongFirst : Type 0
AlongFirst =
    (s : Sheet) (v : List ℤ) → InRanges s v → (route : List ℕ) (zs : List Zone) → zones_along s route ≡ listed zs
    → (z : Zone) → Memᴰ z zs → StartsFirst s z

abbrev pub ZonesFirst : Type 0
ZonesFirst =
    (s : Sheet) (v : List ℤ) → InRanges s v → (zs : List Zone) → zones_of s ≡ listed zs → (z : Zone) → Memᴰ z zs → StartsFirst s z
