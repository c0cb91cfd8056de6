-- The interval of one parameter that an inequality leaves (paper 01: "an allowance's interval from an inequality by floor division
-- with a negative divisor").
use Rattle.std.specs.Prelude.{cond, zero, suc, ℤ, pos, negsuc, neg_ℤ, ◌≤ℤ◌}
use Rattle.std.specs.Int.Signed.{le_z}
use Rattle.integer.specs.Floor.{floor_z}
use Rattle.expr.specs.declared.range.Range.{Range}

-- no number
abbrev pub EMPTY : Range
EMPTY = record { low = pos 1; high = pos 0 }

-- the range from l on
abbrev pub from : Range → ℤ → Range
from r l = cond (le_z l r.low) r (cond (le_z l r.high) (record { low = l; high = r.high }) EMPTY)

-- the range up to h
abbrev pub up_to : Range → ℤ → Range
up_to r h = cond (le_z r.high h) r (cond (le_z r.low h) (record { low = r.low; high = h }) EMPTY)

-- the part of a range where constant + slope · x ≥ 0
unfoldable pub interval : Range → ℤ → ℤ → Range
interval r c (pos zero) = cond (le_z (pos 0) c) r EMPTY
interval r c (pos (suc a)) = from r (neg_ℤ (floor_z c (pos (suc a))))
interval r c (negsuc a) = up_to r (floor_z (neg_ℤ c) (negsuc a))

-- numbers that the code can negate and divide without a wrap
abbrev pub Tame : ℤ → Type 0
Tame z = (neg_ℤ (pos 4611686018427387903) ≤ℤ z) × (z ≤ℤ pos 4611686018427387903)
