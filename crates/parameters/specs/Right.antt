-- What holds of every parameter's range that was read (paper 01, "The sheet file", Body 1). Definitions only.
use Rattle.std.specs.Prelude.{ℕ, List, pos, ◌-ℤ◌, ◌≤ℤ◌}
use Rattle.expr.specs.Records.{PARAMETERS, blank_range}
use Rattle.expr.specs.declared.range.Range.{Range}
use Rattle.cursor_laws.specs.Right.{Small, Filled}

-- the range of a parameter (paper: allowance): both ends small, lowest ≤ highest, difference ≤ 63
pub record RangeRight (range : Range) : Type 0 where
  pub low : Small range.low
  pub high : Small range.high
  pub order : range.low ≤ℤ range.high
  pub width : (range.high -ℤ range.low) ≤ℤ pos 63

-- the ranges of the sheet's parameters; 0 to 0 past them
abbrev pub RangesRight : ℕ → List Range → Type 0
RangesRight parameters list = Filled PARAMETERS parameters blank_range blank_range RangeRight list
