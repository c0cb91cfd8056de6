-- Where counts end.
use Rattle.std.specs.Prelude.{ℕ}

-- the largest usize
abbrev pub CAP : ℕ
CAP = 18446744073709551615
