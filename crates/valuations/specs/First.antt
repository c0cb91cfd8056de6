-- What the search answers, for any number of parameters (paper 02, request (c), "A setting to start from"): the first valuation of the
-- ranges that meets the inequalities, comparing parameter 1, then 2 and so on, smaller first; and nothing exactly if no valuation
-- of the ranges meets them. Its proof is in FirstProof.
use Rattle.std.specs.Prelude.{◌≡◌, ◌↔◌, ◌⊎◌, List, [], ◌∷◌, true, false, ℤ, ◌<ℤ◌}
use Rattle.std.proofs.Math.Option.{none, some}
use Rattle.expr.specs.Affine.{Affine}
use Rattle.expr.specs.Ranges.{Inside}
use Rattle.valuations.specs.Valuations.{satisfies, first}
use Rattle.expr.specs.declared.range.Range.{Range}

-- v comes before w: it is smaller in the first parameter in which they differ
abbrev pub Earlier : List ℤ → List ℤ → Type 0
Earlier [] w = ⊥
Earlier (x ∷ v) [] = ⊥
Earlier (x ∷ v) (y ∷ w) = (x <ℤ y) ⊎ ((x ≡ y) × Earlier v w)

-- v is the first valuation of the ranges that meets the inequalities
pub record IsFirst (rs : List Range) (es : List Affine) (v : List ℤ) : Type 0 where
  pub inside : Inside v rs
  pub meets : satisfies es v ≡ true
  pub none_earlier : (w : List ℤ) → Inside w rs → Earlier w v → satisfies es w ≡ false

-- ---- the statement
pub record FirstRight (rs : List Range) (es : List Affine) : Type 0 where
  -- what is answered is the first, and the first is answered
  pub found : (v : List ℤ) → (first rs es ≡ some v) ↔ IsFirst rs es v
  -- nothing is answered exactly if nothing meets the inequalities
  pub nothing : (first rs es ≡ none) ↔ ((v : List ℤ) → Inside v rs → satisfies es v ≡ false)

abbrev pub SearchRight : Type 0
SearchRight = (rs : List Range) (es : List Affine) → FirstRight rs es
