-- Sheet files as bytes (paper 01, "The sheet file"), from their four bodies: to write the sheets of Cases down as the paper has them.
use Rattle.std.specs.Prelude.{List, [], ◌∷◌, ◌++◌, map, ℕ, ◌+◌, ◌-◌, ◌/◌, ◌%◌, ℤ, pos, negsuc, neg_ℤ, length, take}
use Rattle.expr.specs.Records.{four}
use Rattle.expr.specs.declared.number.Expr.{Expr}
use Rattle.expr.specs.declared.range.Range.{Range}

-- ---- numbers and expressions
abbrev pub minus : ℕ → ℤ
minus n = neg_ℤ (pos n)

-- low to high
abbrev pub range : ℤ → ℤ → Range
range low high = record { low = low; high = high }

-- a constant and the first coefficients, the others being 0
abbrev pub with : ℤ → List ℤ → Expr
with c cs = record { constant = c; coefs = four cs }

-- a constant, and with p and q
abbrev pub constant : ℤ → Expr
constant c = with c []

abbrev pub with_p : ℤ → ℤ → Expr
with_p c p = with c (p ∷ [])

abbrev pub with_pq : ℤ → ℤ → ℤ → Expr
with_pq c p q = with c (p ∷ q ∷ [])

-- ---- fields
-- two bytes, little-endian
abbrev pub word : ℕ → List ℕ
word n = n % 256 ∷ n / 256 ∷ []

-- i16, two's complement
abbrev pub signed : ℤ → List ℕ
signed (pos n) = word n
signed (negsuc n) = word (65535 - n)

abbrev pub joined : List (List ℕ) → List ℕ
joined [] = []
joined (l ∷ ls) = l ++ joined ls

-- a limit with n coefficients, 6 + 2 n bytes: a - b ≤ or < an expression
abbrev pub limit_bytes : ℕ → ℕ → ℕ → ℕ → Expr → List ℕ
limit_bytes n a b relation e = a ∷ b ∷ relation ∷ 0 ∷ signed e.constant ++ joined (map signed (take n e.coefs))

-- a - b ≤ e
abbrev pub at_most : ℕ → ℕ → Expr → List ℕ
at_most a b e = limit_bytes 3 a b 0 e

-- a - b < e
abbrev pub under : ℕ → ℕ → Expr → List ℕ
under a b e = limit_bytes 3 a b 1 e

-- a - b ≤ e, in version 2
abbrev pub at_most_four : ℕ → ℕ → Expr → List ℕ
at_most_four a b e = limit_bytes 4 a b 0 e

-- ---- bodies
-- a count of things, then the things
abbrev pub counted : List (List ℕ) → List ℕ
counted ls = length ls ∷ joined ls

-- the ranges' bytes
abbrev pub range_bytes : List Range → List (List ℕ)
range_bytes [] = []
range_bytes (r ∷ rs) = (signed r.low ++ signed r.high) ∷ range_bytes rs

-- ---- the file: contents first, then bodies
abbrev pub entry_bytes : ℕ → ℕ → ℕ → List ℕ
entry_bytes kind offset size = kind ∷ word offset ++ word size

abbrev pub file_of : ℕ → List ℕ → List ℕ → List ℕ → List ℕ → List ℕ
file_of version a b c d =
    version ∷ 4 ∷ entry_bytes 1 22 (length a) ++ entry_bytes 2 (22 + length a) (length b)
    ++ entry_bytes 3 (22 + length a + length b) (length c)
    ++ entry_bytes 4 (22 + length a + length b + length c) (length d) ++ a ++ b ++ c ++ d

-- one clock (paper: watch); one location (stage) with these invariants (standing limits); no transition, empty route
abbrev pub standing : List Range → List (List ℕ) → List ℕ
standing ranges invariants = file_of 1 (counted (range_bytes ranges)) (1 ∷ counted (counted invariants ∷ [])) (0 ∷ []) (0 ∷ [])

-- one clock; location 0 with these invariants; transition (move) 0 from 0 to 1 with these guards (limits), no resets; location 1 without
-- invariants; route 0
abbrev pub moving_in : ℕ → List Range → List (List ℕ) → List (List ℕ) → List ℕ
moving_in version ranges invariants guards =
    file_of version (counted (range_bytes ranges)) (1 ∷ counted (counted invariants ∷ (0 ∷ []) ∷ []))
    (counted ((0 ∷ 1 ∷ 0 ∷ counted guards) ∷ [])) (1 ∷ 0 ∷ [])

abbrev pub moving : List Range → List (List ℕ) → List (List ℕ) → List ℕ
moving ranges invariants guards = moving_in 1 ranges invariants guards
