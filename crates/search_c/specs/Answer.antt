-- What the number that comes back stands for.
use Rattle.std.specs.Prelude.{ℕ, ℤ, pos, get_or, Option, Some, None}
use Rattle.expr.specs.declared.number.Valuation.{Valuation}

-- the number of parameter k in a solution, 0 past the last parameter; or 65,536, which is no number of 16 bits, for nothing
abbrev pub number_of : Option Valuation → ℕ → ℤ
number_of None k = pos 65536
number_of (Some v) k = get_or v.numbers k (pos 0)
