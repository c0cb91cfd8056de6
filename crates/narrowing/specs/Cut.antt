-- What a cut promises: narrower ranges that lose no valuation at which the inequality holds.
use Rattle.std.specs.Prelude.{List, [], ◌∷◌, ℤ, pos, ◌+ℤ◌, ◌-ℤ◌, ◌*ℤ◌, ◌≤ℤ◌}
use Prim.{Unit}
use Rattle.expr.specs.Affine.{Affine, value}
use Rattle.expr.specs.Ranges.{In, Inside}
use Rattle.expr.specs.declared.range.Range.{Range}
use Rattle.narrowing.specs.Best.{best}

-- each range of the first list lies in that of the second
abbrev pub Within : List Range → List Range → Type 0
Within [] [] = Unit
Within [] (r ∷ rs) = ⊥
Within (s ∷ ss) [] = ⊥
Within (s ∷ ss) (r ∷ rs) = ((x : ℤ) → In x s → In x r) × Within ss rs

-- the ranges that inequality e ≥ 0 leaves of some ranges
pub record Cut (e : Affine) (rs ss : List Range) : Type 0 where
  pub within : Within ss rs
  pub keeps : (v : List ℤ) → Inside v rs → pos 0 ≤ℤ value e v → Inside v ss

-- the part of a range r that an inequality leaves which is at most m, coefficient a being at its best
pub record Part (a m : ℤ) (r s : Range) : Type 0 where
  pub within : (x : ℤ) → In x s → In x r
  pub keeps : (x : ℤ) → In x r → pos 0 ≤ℤ ((m -ℤ best a r) +ℤ (a *ℤ x)) → In x s
