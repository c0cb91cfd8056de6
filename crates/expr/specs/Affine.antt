-- Expressions over any number of parameters (paper 01, "Cutting the ranges").
use Rattle.std.specs.Prelude.{List, [], ◌∷◌, map, ℤ, pos, negsuc, neg_ℤ, ◌+ℤ◌, ◌-ℤ◌, ◌*ℤ◌}
use Rattle.weight.specs.Upper.{saturate}
use Rattle.saturating.specs.Largest.{LARGEST}

-- an expression: a constant, and a coefficient for each parameter (paper: allowance)
pub record Affine : Type 0 where
  pub constant : ℤ
  pub coefs : List ℤ

-- the sum of coefficient × parameter
unfoldable pub dot : List ℤ → List ℤ → ℤ
dot [] v = pos 0
dot (c ∷ cs) [] = pos 0
dot (c ∷ cs) (x ∷ v) = (c *ℤ x) +ℤ dot cs v

-- an expression's value at a valuation (paper: with a setting put in): constant + sum of coefficient × parameter
unfoldable pub value : Affine → List ℤ → ℤ
value e v = e.constant +ℤ dot e.coefs v

-- coefficients added; one that is missing is 0
unfoldable pub plus_l : List ℤ → List ℤ → List ℤ
plus_l [] ds = ds
plus_l (c ∷ cs) [] = c ∷ cs
plus_l (c ∷ cs) (d ∷ ds) = (c +ℤ d) ∷ plus_l cs ds

-- coefficients subtracted; one that is missing is 0
unfoldable pub minus_l : List ℤ → List ℤ → List ℤ
minus_l [] ds = map neg_ℤ ds
minus_l (c ∷ cs) [] = c ∷ cs
minus_l (c ∷ cs) (d ∷ ds) = (c -ℤ d) ∷ minus_l cs ds

-- a + b
unfoldable pub plus : Affine → Affine → Affine
plus a b = record { constant = a.constant +ℤ b.constant; coefs = plus_l a.coefs b.coefs }

-- a - b
unfoldable pub minus : Affine → Affine → Affine
minus a b = record { constant = a.constant -ℤ b.constant; coefs = minus_l a.coefs b.coefs }

-- e - 1
unfoldable pub less_one : Affine → Affine
less_one e = record { constant = e.constant -ℤ pos 1; coefs = e.coefs }

-- the opposite of the inequality e ≥ 0 is -e - 1 ≥ 0, parameters being whole
unfoldable pub opposite : Affine → Affine
opposite e = record { constant = negsuc 0 -ℤ e.constant; coefs = map neg_ℤ e.coefs }

-- every number clamped to ±LARGEST, as the code takes them
unfoldable pub saturated_e : Affine → Affine
saturated_e e = record { constant = saturate LARGEST e.constant; coefs = map (saturate LARGEST) e.coefs }
