-- Boxes of ranges: corners, and ranges of one number.
use Rattle.std.specs.Prelude.{cond, List, [], ◌∷◌, ℕ, zero, suc, ◌<◌, ◌≡◌, ℤ, pos, ◌+ℤ◌, length, get_or, ◌≤ℤ◌, ◌<ℤ◌, Option, None, Some}
use Prim.{Unit}
use Rattle.std.specs.Int.Signed.{lt_z}
use Rattle.expr.specs.Records.{blank_range}
use Rattle.expr.specs.declared.range.Range.{Range}

-- the low end of a range
abbrev pub low_of : Range → ℤ
low_of r = r.low

-- a range with its ends exchanged
abbrev pub turn : Range → Range
turn r = record { low = r.high; high = r.low }

-- the range of one number
abbrev pub point_of : ℤ → Range
point_of x = record { low = x; high = x }

-- the range of the one number at n of a range, counted from 0
abbrev pub point_at : Range → ℕ → Range
point_at r n = point_of (r.low +ℤ pos n)

-- the first k ranges have one number at most
abbrev pub Points : ℕ → List Range → Type 0
Points zero rs = Unit
Points (suc k) [] = Unit
Points (suc k) (r ∷ rs) = (r.high ≤ℤ r.low) × Points k rs

-- the range at w has several numbers
abbrev pub Wide : ℕ → List Range → Type 0
Wide w rs = (get_or rs w blank_range).low <ℤ (get_or rs w blank_range).high

-- no range but the one at w has several numbers
abbrev pub Alone : ℕ → List Range → Type 0
Alone w rs = (j : ℕ) → j < length rs → (j ≡ w → ⊥) → (get_or rs j blank_range).high ≤ℤ (get_or rs j blank_range).low

-- no range but those at w and t has several numbers
abbrev pub Two : ℕ → ℕ → List Range → Type 0
Two w t rs = (j : ℕ) → j < length rs → (j ≡ w → ⊥) → (j ≡ t → ⊥) → (get_or rs j blank_range).high ≤ℤ (get_or rs j blank_range).low

-- the first of n places from i on whose range has several numbers, if there is one
unfoldable pub wide_from : List Range → ℕ → ℕ → Option ℕ
wide_from rs i zero = None
wide_from rs i (suc n) = cond (lt_z (get_or rs i blank_range).low (get_or rs i blank_range).high) (Some i) (wide_from rs (suc i) n)
