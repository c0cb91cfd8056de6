-- The valuations of some ranges, and which of them meet inequalities, for any number of parameters (paper 01, "A test on a piece").
use Rattle.std.specs.Prelude.{List, [], ◌∷◌, ◌++◌, map, Bool, true, ◌&&◌, cond, ℕ, zero, suc, ◌*◌, ℤ, pos, ◌+ℤ◌, ◌-ℤ◌}
use Rattle.std.proofs.Math.Option.{Option, none, some}
use Rattle.std.specs.Int.Signed.{le_z}
use Rattle.integer.specs.Parts.{p}
use Rattle.expr.specs.Affine.{Affine, value}
use Rattle.expr.specs.declared.range.Range.{Range}

-- n whole numbers from x on
unfoldable pub span : ℤ → ℕ → List ℤ
span x zero = []
span x (suc n) = x ∷ span (x +ℤ pos 1) n

-- how many numbers a range has: highest + 1 - lowest, or 0 where that is negative
unfoldable pub width : Range → ℕ
width r = p ((r.high +ℤ pos 1) -ℤ r.low)

-- each of the numbers before each of the lists
unfoldable pub before : List ℤ → List (List ℤ) → List (List ℤ)
before [] vs = []
before (x ∷ xs) vs = map (λ v. x ∷ v) vs ++ before xs vs

-- all valuations of the ranges (paper: settings), in lexicographic order; no parameter: exactly one valuation
unfoldable pub valuations : List Range → List (List ℤ)
valuations [] = [] ∷ []
valuations (r ∷ rs) = before (span r.low (width r)) (valuations rs)

-- v meets all inequalities e ≥ 0
unfoldable pub satisfies : List Affine → List ℤ → Bool
satisfies [] v = true
satisfies (e ∷ es) v = le_z (pos 0) (value e v) && satisfies es v

-- the first of a list that passes a test
unfoldable pub first_in : (List ℤ → Bool) → List (List ℤ) → Option (List ℤ)
first_in t [] = none
first_in t (v ∷ vs) = cond (t v) (some v) (first_in t vs)

-- how many of a list pass a test
unfoldable pub count_in : (List ℤ → Bool) → List (List ℤ) → ℕ
count_in t [] = 0
count_in t (v ∷ vs) = cond (t v) (suc (count_in t vs)) (count_in t vs)

-- the first valuation of the ranges that meets the inequalities
unfoldable pub first : List Range → List Affine → Option (List ℤ)
first rs es = first_in (satisfies es) (valuations rs)

-- its numbers; no numbers where there is none
abbrev pub numbers_in : Option (List ℤ) → List ℤ
numbers_in none = []
numbers_in (some v) = v

-- how many valuations of the ranges meet the inequalities
unfoldable pub count : List Range → List Affine → ℕ
count rs es = count_in (satisfies es) (valuations rs)

-- how many there are: the product of the widths
unfoldable pub widths : List Range → ℕ
widths [] = 1
widths (r ∷ rs) = width r * widths rs
