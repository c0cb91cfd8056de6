-- How large a weighted sum of two inequalities gets in a box: 64 bits hold it.
use Rattle.std.specs.Prelude.{ℕ, ◌+◌, ◌*◌, ◌≤◌, ℤ, pos, ◌≤ℤ◌}
use Rattle.integer.specs.Parts.{p, n}

-- a multiplier: 0 to 4,096
abbrev pub Multiplier : ℤ → Type 0
Multiplier z = (pos 0 ≤ℤ z) × (p z + n z ≤ 4096)

-- the size of a multiplier times a number of 32 bits, at most
abbrev pub SizedTerm : ℤ → Type 0
SizedTerm z = p z + n z ≤ 8796093022208

-- the size of two of these, at most
abbrev pub SizedCoef : ℤ → Type 0
SizedCoef z = p z + n z ≤ 17592186044416

-- the size of these times a number of 16 bits, at most
abbrev pub SizedMost : ℤ → Type 0
SizedMost z = p z + n z ≤ 576460752303423488

-- the size of two terms with i such products added, at most
abbrev pub SizedSum : ℕ → ℤ → Type 0
SizedSum i z = p z + n z ≤ 17592186044416 + i * 576460752303423488
