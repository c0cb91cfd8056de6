-- Boxes of ranges, as the search narrows them: a step leaves narrower ranges that lose no valuation which meets the inequalities.
use Rattle.std.specs.Prelude.{◌≡◌, true, false, List, ℤ}
use Rattle.expr.specs.Affine.{Affine}
use Rattle.expr.specs.Ranges.{Inside}
use Rattle.expr.specs.declared.range.Range.{Range}
use Rattle.narrowing.specs.Cut.{Within}
use Rattle.valuations.specs.Valuations.{satisfies}

-- narrower ranges, in which no valuation is lost that meets the inequalities
pub record Narrows (es : List Affine) (rs ss : List Range) : Type 0 where
  pub within : Within ss rs
  pub keeps : (v : List ℤ) → Inside v rs → satisfies es v ≡ true → Inside v ss

-- no valuation meets the inequalities
pub record Never (es : List Affine) : Type 0 where
  pub none : (v : List ℤ) → satisfies es v ≡ false
