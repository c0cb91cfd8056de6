-- Zones at one valuation: which of them hold it, and their matrices with it put in.
use Rattle.std.specs.Prelude.{◌≡◌, Bool, true, cond, ℤ}
use mathlib.Core.List.{List, [], ◌∷◌, Memᴰ}
use Rattle.dbm.specs.Matrix.{Matrix, Outcome, void, kept}
use Rattle.expr.specs.Ranges.{Inside}
use Rattle.weight.specs.Upper.{Upper}
use Rattle.expr.specs.Bounds.{at_v}
use Rattle.expr.specs.Records.{range_list}
use Rattle.valuations.specs.Valuations.{satisfies}
use Rattle.sheet.specs.declared.Sheet.{Sheet}
use Rattle.cutting.specs.Cutting.{Bounds, Zone}

-- the zone holds v (paper: a piece holds a setting), v being in the ranges: v meets all its inequalities
abbrev pub holds : List ℤ → Zone → Bool
holds v z = satisfies z.ineqs v

-- a matrix of bounds with v put in
unfoldable pub at : List ℤ → Bounds → Matrix (Upper ℤ)
at v m i j = at_v v (m i j)

-- the matrices, with v put in, of the zones that hold v, in order
unfoldable pub found : List ℤ → List Zone → List (Matrix (Upper ℤ))
found v [] = []
found v (z ∷ zs) = cond (holds v z) (at v z.bounds ∷ found v zs) (found v zs)

-- an outcome as a list: nothing where it is void, else one matrix
abbrev pub list_of : Outcome → List (Matrix (Upper ℤ))
list_of void = []
list_of (kept m) = m ∷ []

-- some zone of the list holds v
pub record HeldBy (v : List ℤ) (zs : List Zone) : Type 0 where
  pub zone : Zone
  pub one_of : Memᴰ zone zs
  pub held : holds v zone ≡ true

-- the valuation lies in the sheet's ranges
abbrev pub InRanges : Sheet → List ℤ → Type 0
InRanges s v = Inside v (range_list s.ranges)
