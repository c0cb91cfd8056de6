-- How large products and sums of them get: 64 bits hold them.
use Rattle.std.specs.Prelude.{ℕ, ◌+◌, ◌*◌, ◌≤◌, ℤ}
use Rattle.integer.specs.Parts.{p, n}

-- the size of a number of 32 bits times one of 16 bits, at most
abbrev pub Sized : ℤ → Type 0
Sized z = p z + n z ≤ 70368744177664

-- the size of a number of 32 bits with i such products added, at most
abbrev pub SizedTo : ℕ → ℤ → Type 0
SizedTo i z = p z + n z ≤ 2147483648 + i * 70368744177664
