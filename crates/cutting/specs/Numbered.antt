-- The cutting is refused by 7 or 8 alone. Its proof is in NumberedProof.
use Rattle.std.specs.Prelude.{◌≡◌, List, ℕ}
use Rattle.sheet.specs.declared.Sheet.{Sheet}
use Rattle.cutting.specs.Cutting.{refused, zones_along, zones_of, SevenOrEight}

-- along any route, and along the sheet's own
abbrev pub AlongNumbered : Type 0
AlongNumbered = (s : Sheet) (route : List ℕ) (m visit : ℕ) → zones_along s route ≡ refused m visit → SevenOrEight m

abbrev pub ZonesNumbered : Type 0
ZonesNumbered = (s : Sheet) (m visit : ℕ) → zones_of s ≡ refused m visit → SevenOrEight m
