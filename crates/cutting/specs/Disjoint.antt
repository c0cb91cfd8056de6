-- No two zones hold the same valuation of the ranges. The proof is in DisjointProof.
use Rattle.std.specs.Prelude.{◌≡◌, List, true, ℕ, ◌≤◌, ◌<◌, ℤ, length, get_or}
use Rattle.sheet.specs.declared.Sheet.{Sheet}
use Rattle.cutting.specs.Cutting.{Zone, listed, zones_along, zones_of}
use Rattle.cutting.specs.Held.{InRanges, holds, found}

-- at most one zone holds v, along any route
abbrev pub AlongDisjoint : Type 0
AlongDisjoint =
    (s : Sheet) (route : List ℕ) (zs : List Zone) → zones_along s route ≡ listed zs → (v : List ℤ) → InRanges s v → length (found v zs) ≤ 1

-- along the sheet's own
abbrev pub PiecesDisjoint : Type 0
PiecesDisjoint = (s : Sheet) (zs : List Zone) → zones_of s ≡ listed zs → (v : List ℤ) → InRanges s v → length (found v zs) ≤ 1

-- that is: zones at different places of the list have no valuation of the ranges in common
abbrev pub ZonesApart : Type 0
ZonesApart =
    (s : Sheet) (zs : List Zone) → zones_of s ≡ listed zs → (v : List ℤ) → InRanges s v
    → (d : Zone) (i j : ℕ) → i < length zs → j < length zs
    → holds v (get_or zs i d) ≡ true → holds v (get_or zs j d) ≡ true → i ≡ j
