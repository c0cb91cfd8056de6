-- The shape of what is listed: at most 32 zones, each of at most 24 inequalities, and past the sheet's clocks zero, not strict. Its proof
-- is in ShapeProof.
use Rattle.std.specs.Prelude.{◌≡◌, ℕ, ◌≤◌, length}
use mathlib.Core.List.{List, Memᴰ}
use Rattle.dbm.specs.Matrix.{Outside}
use Rattle.expr.specs.Bounds.{zero_b}
use Rattle.sheet.specs.declared.Sheet.{Sheet}
use Rattle.cutting.specs.Cutting.{Bounds, Zone, listed, INEQS, ZONES, zones_along, zones_of}

-- past clock 0 and w clocks the matrix is zero, not strict
abbrev pub Blank : ℕ → Bounds → Type 0
Blank w m = (i j : ℕ) → Outside w i j → m i j ≡ zero_b

pub record Shaped (w : ℕ) (z : Zone) : Type 0 where
  pub few : length z.ineqs ≤ INEQS
  pub blank : Blank w z.bounds

-- ---- the statement, along any route and along the sheet's own
abbrev pub AlongShaped : Type 0
AlongShaped =
    (s : Sheet) (route : List ℕ) (zs : List Zone) → zones_along s route ≡ listed zs
    → (length zs ≤ ZONES) × ((z : Zone) → Memᴰ z zs → Shaped s.clocks z)

abbrev pub ZonesShaped : Type 0
ZonesShaped =
    (s : Sheet) (zs : List Zone) → zones_of s ≡ listed zs → (length zs ≤ ZONES) × ((z : Zone) → Memᴰ z zs → Shaped s.clocks z)
