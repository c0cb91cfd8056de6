-- How large the numbers of a matrix grow: from B before a delay to at most 2 * (B + C) before the next one, through any guards and resets
-- between them, where the guards' numbers are at most C and each guard is on one clock, so that one of its two clocks is clock 0. Between
-- two delays (`Visit`), row and column 0 stay within B + C; any other entry is as small as it was before, or is the sum of its way over
-- clock 0.
use Rattle.std.specs.Prelude.{◌⊎◌, ℕ, ◌+◌, ◌*◌, ◌≤◌, ℤ, nat_abs}
use Rattle.std.proofs.Common.{inl, inr, arith}
use Rattle.integer.specs.Parts.{nat_abs_parts}
use Rattle.integer.specs.Product.{sum_size}
use Rattle.weight.specs.Upper.{Upper, none, upper, sum_w}
use Rattle.dbm.specs.Matrix.{Matrix, ◌⊑◌, Closed}
use Rattle.dbm.specs.Weights.{⊑-antisym}

-- the weight's number, if it has one, is at most B in absolute value
abbrev pub Numbered : ℕ → Upper ℤ → Type 0
Numbered B none = Unit
Numbered B (upper s c) = nat_abs c ≤ B

pub record AtMost (B : ℕ) (a : Upper ℤ) : Type 0 where
  pub size : Numbered B a

-- so is every number of the matrix
abbrev pub Small : ℕ → ℕ → Matrix (Upper ℤ) → Type 0
Small w B m = (i j : ℕ) → i ≤ w → j ≤ w → AtMost B (m i j)

-- what holds from one delay to the next
pub record Visit (w B C : ℕ) (m : Matrix (Upper ℤ)) : Type 0 where
  pub closed : Closed w m
  pub row : (l : ℕ) → l ≤ w → AtMost (B + C) (m 0 l)
  pub column : (k : ℕ) → k ≤ w → AtMost (B + C) (m k 0)
  pub rest : (k l : ℕ) → k ≤ w → l ≤ w → AtMost B (m k l) ⊎ (sum_w (m k 0) (m 0 l) ⊑ m k l)

-- ---- sizes of weights
pub none_at_most : (B : ℕ) → AtMost B none
none_at_most B = record { size = tt }

numbered_more : (a : Upper ℤ) (A B : ℕ) → A ≤ B → Numbered A a → Numbered B a
numbered_more none A B g h = tt
numbered_more (upper s c) A B g h = omega arith

pub at_most_more : {a : Upper ℤ} {A B : ℕ} → A ≤ B → AtMost A a → AtMost B a
at_most_more {a} {A} {B} g h = record { size = numbered_more a A B g h.size }

numbered_sum : (a b : Upper ℤ) (A B : ℕ) → Numbered A a → Numbered B b → Numbered (A + B) (sum_w a b)
unfolding sum_w
numbered_sum none b A B h k = tt
numbered_sum (upper s x) none A B h k = tt
numbered_sum (upper s x) (upper t y) A B h k = rw nat_abs_parts (sum_size x y (rw nat_abs_parts at h) (rw nat_abs_parts at k))

pub at_most_sum : {a b : Upper ℤ} {A B : ℕ} → AtMost A a → AtMost B b → AtMost (A + B) (sum_w a b)
at_most_sum {a} {b} {A} {B} h k = record { size = numbered_sum a b A B h.size k.size }

-- ---- it begins after a delay
pub small_visit : {w B : ℕ} {m : Matrix (Upper ℤ)} (C : ℕ) → Closed w m → Small w B m → Visit w B C m
small_visit {w} {B} {m} C c h = record {
  closed = c;
  row = λ l hl. at_most_more (omega arith) (h 0 l (omega arith) hl);
  column = λ k hk. at_most_more (omega arith) (h k 0 hk (omega arith));
  rest = λ k l hk hl. inl (h k l hk hl);
}

-- ---- what it says of every number
pub visit_small : {w B C : ℕ} {m : Matrix (Upper ℤ)} → Visit w B C m → Small w (2 * (B + C)) m
visit_small {w} {B} {C} {m} v k l hk hl = by (v.rest k l hk hl)
  where
    by : AtMost B (m k l) ⊎ (sum_w (m k 0) (m 0 l) ⊑ m k l) → AtMost (2 * (B + C)) (m k l)
    by (inl h) = at_most_more (omega arith) h
    by (inr h) = rw (⊑-antisym (v.closed.triangle k 0 l hk (omega arith) hl) h)
        (at_most_more (omega arith) (at_most_sum (v.column k hk) (v.row l hl)))
