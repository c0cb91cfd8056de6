-- The first valuation, as the search gives it.
use mathlib.Core.Path.{◌≡◌, refl, ap, ◌∙◌}
use mathlib.Core.List.{List}
use mathlib.Core.Option.{Option}
use mathlib.Core.Option as option
use lib.IntN.{ℤ}
use Rattle.std.specs.Prelude.{unwrap_or}
use Rattle.expr.specs.Affine.{Affine}
use Rattle.expr.specs.Records.{range_list, valuation_of, zero_valuation}
use Rattle.first_met.specs.Solutions.{Solution, solution_of}
use Rattle.valuations.specs.Valuations.{first, numbers_in}
use Rattle.expr.specs.declared.range.Ranges.{Ranges}

solution_as : (o : Option (List ℤ)) → unwrap_or (solution_of o) zero_valuation ≡ valuation_of (numbers_in o)
solution_as option.none = refl
solution_as (option.some v) = refl

pub first_held_is : (b : Ranges) (o : Solution) (es fs : List Affine) → es ≡ fs
    → o ≡ solution_of (first (range_list b) es) → unwrap_or o zero_valuation ≡ valuation_of (numbers_in (first (range_list b) fs))
first_held_is b o es fs e h =
    ap (λ (x : Solution). unwrap_or x zero_valuation) (h ∙ ap (λ (l : List Affine). solution_of (first (range_list b) l)) e)
    ∙ solution_as (first (range_list b) fs)
