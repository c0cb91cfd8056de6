-- The part of one range where inequalities hold.
use Rattle.std.specs.Prelude.{List, [], ◌∷◌, ℕ, ℤ, pos, get_or}
use Rattle.expr.specs.Affine.{Affine, value}
use Rattle.expr.specs.declared.range.Range.{Range}
use Rattle.intervals.specs.Interval.{interval}

-- the part of range r at w where inequalities hold, a valuation having the other parameters and 0 for w
unfoldable pub part_of : List Affine → List ℤ → ℕ → Range → Range
part_of [] v w r = r
part_of (e ∷ es) v w r = part_of es v w (interval r (value e v) (get_or e.coefs w (pos 0)))
