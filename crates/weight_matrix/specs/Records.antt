-- The code's records of a matrix of weights: a row of five.
use Rattle.std.specs.Prelude.{List, [], ◌∷◌, ℕ, ℤ}
use Rattle.dbm.specs.Matrix.{Matrix}
use Rattle.weight.specs.Upper.{Upper}
use Rattle.weight.specs.Records.{weight_of, zero_weight}
use Rattle.weight.specs.declared.Weight.{Weight}

abbrev pub zero_row : List Weight
zero_row = zero_weight ∷ zero_weight ∷ zero_weight ∷ zero_weight ∷ zero_weight ∷ []

-- row i
unfoldable pub row : Matrix (Upper ℤ) → ℕ → List Weight
row f i = weight_of (f i 0) ∷ weight_of (f i 1) ∷ weight_of (f i 2) ∷ weight_of (f i 3) ∷ weight_of (f i 4) ∷ []
