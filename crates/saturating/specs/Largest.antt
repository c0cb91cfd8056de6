use Rattle.std.specs.Prelude.{ℤ, pos}

-- the code's sums, tests and opposites of expressions never wrap: a number past ±(2^30 - 1) counts as that end. No number that the cutting
-- of a readable sheet forms is that large (paper 02, request (n): crate sizes)
abbrev pub LARGEST : ℤ
LARGEST = pos 1073741823
