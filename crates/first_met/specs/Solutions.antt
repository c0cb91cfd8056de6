-- What the code answers: the first valuation.
use Rattle.std.specs.Prelude.{List, ℤ, None, Some}
use Rattle.std.specs.Prelude as code
use Rattle.std.proofs.Math.Option.{Option, none, some}
use Rattle.expr.specs.Records.{valuation_of}
use Rattle.expr.specs.declared.number.Valuation.{Valuation}

-- what the code answers of a search: a valuation, or that there is none
abbrev pub Solution : Type 0
Solution = code.Option Valuation

-- the code's solution: the first valuation that was found, if any was
abbrev pub solution_of : Option (List ℤ) → Solution
solution_of none = None
solution_of (some v) = Some (valuation_of v)
