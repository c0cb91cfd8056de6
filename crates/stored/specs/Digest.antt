-- Digests: a digest starts at 0, and each number takes it further.
use Rattle.std.specs.Prelude.{ℕ, ◌+◌, ◌*◌, ◌%◌, ℤ, pos, negsuc}

-- the digest h with one more number
abbrev pub with_number : ℕ → ℕ → ℕ
with_number h x = (h * 1000003 + x) % 1000000007

-- the digest h with a number z that may be negative: with 0 and z, or with 1 and -1 - z (of `negsuc n` this is n)
abbrev pub with_signed : ℕ → ℤ → ℕ
with_signed h (pos n) = with_number (with_number h 0) n
with_signed h (negsuc n) = with_number (with_number h 1) n
