-- Valuations in ranges, for any number of parameters.
use Rattle.std.specs.Prelude.{List, [], ◌∷◌, ℤ, ◌≤ℤ◌}
use Prim.{Unit}
use Rattle.expr.specs.declared.range.Range.{Range}

-- x lies in a range, both ends included
pub record In (x : ℤ) (r : Range) : Type 0 where
  pub least : r.low ≤ℤ x
  pub most : x ≤ℤ r.high

-- every parameter of a valuation lies in its range
abbrev pub Inside : List ℤ → List Range → Type 0
Inside [] [] = Unit
Inside [] (r ∷ rs) = ⊥
Inside (x ∷ v) [] = ⊥
Inside (x ∷ v) (r ∷ rs) = In x r × Inside v rs
