-- What the numbers of the input stand for: past the end of a slice every number is 0.
use Rattle.std.specs.Prelude.{List, [], ◌∷◌, ℕ, zero, suc, ◌+◌, ◌*◌, ◌/◌, ℤ, pos, get_or, length}
use Rattle.expr.specs.Affine.{Affine}
use Rattle.expr.specs.Records.{PARAMETERS}
use Rattle.expr.specs.declared.range.Range.{Range}
use Rattle.expr.specs.declared.range.Ranges.{Ranges}
use Rattle.inequalities.specs.Flat.{exprs_in}

-- the number at i
abbrev pub number_at : List ℤ → ℕ → ℤ
number_at s i = get_or s i (pos 0)

-- the range at i: low, then high
unfoldable pub range_at : List ℤ → ℕ → Range
range_at s i = record { low = number_at s (2 * i); high = number_at s (2 * i + 1) }

-- n ranges from range i on
abbrev pub ranges_from : List ℤ → ℕ → ℕ → List Range
ranges_from s i zero = []
ranges_from s i (suc n) = range_at s i ∷ ranges_from s (suc i) n

-- the ranges of the parameters
abbrev pub ranges_of : List ℤ → Ranges
ranges_of s = record { list = ranges_from s 0 PARAMETERS }

-- the inequalities: as many as the slice has whole
abbrev pub exprs_of : List ℤ → List Affine
exprs_of s = exprs_in s (length s / 5)
