-- Difference bound matrices, for any number of clocks (paper 01: watches): what a matrix is, what the rules of paper 01,
-- "Cutting the ranges", do to one at a single valuation, and which states meet one.
-- Clock 0 is always 0, and the others are clocks 1 to w. Entry (i, j) bounds clock i - clock j.
use Rattle.std.specs.Prelude.{◌≡◌, ◌↔◌, ◌⊎◌, Bool, true, false, ◌&&◌, cond, ℕ, zero, suc, ◌/◌, ◌%◌, ◌^◌, ◌≤◌, ◌<◌, leb, ltb, eqb, ℤ, pos, ◌+ℤ◌, ◌-ℤ◌, ◌*ℤ◌, ◌≤ℤ◌, ◌<ℤ◌}
use Rattle.weight.specs.Upper.{Upper, none, upper, sum_w, tighter_w, zero_w}

-- a matrix over some kind of entry, read at indices up to w. What lies past w is padding, and no rule touches it
abbrev pub Matrix : Type 0 → Type 0
Matrix A = ℕ → ℕ → A

-- both indices are of clock 0 or of one of the w clocks
abbrev pub inside : ℕ → ℕ → ℕ → Bool
inside w i j = leb i w && leb j w

-- ---- the rules
-- Start: all entries zero, not strict
unfoldable pub start : Matrix (Upper ℤ)
start i j = zero_w

-- Wait: entries (i, 0), i ≥ 1, become none (`nothing`, for any kind of entry)
unfoldable pub delayed : {A : Type 0} → ℕ → A → Matrix A → Matrix A
delayed w nothing m i j = cond (ltb 0 i && (leb i w && eqb j 0)) nothing (m i j)

-- Reset r, at entry (i, j), where the two tests say whether i is r and whether j is
abbrev pub reset_at : {A : Type 0} → Matrix A → Bool → Bool → ℕ → ℕ → A
reset_at m true true i j = m i j
reset_at m true false i j = m 0 j
reset_at m false true i j = m i 0
reset_at m false false i j = m i j

-- Reset r: for j other than r, (r, j) takes (0, j) and (j, r) takes (j, 0)
unfoldable pub reset_m : {A : Type 0} → ℕ → ℕ → Matrix A → Matrix A
reset_m w r m i j = cond (inside w i j) (reset_at m (eqb i r) (eqb j r) i j) (m i j)

-- Resets in rising order, of clocks 1 to n: bit i - 1 for clock i
unfoldable pub resets_m : {A : Type 0} → ℕ → ℕ → ℕ → Matrix A → Matrix A
resets_m w bits zero m = m
resets_m w bits (suc i) m =
    let before = resets_m w bits i m in
    cond (eqb (bits / 2 ^ i % 2) 1) (reset_m w (suc i) before) before

-- the first weight where it is tighter than the second, else the second
abbrev pub tighter_of : Upper ℤ → Upper ℤ → Upper ℤ
tighter_of new old = cond (tighter_w new old) new old

-- A limit i - j with weight e, rule 3: every (k, l) takes (k, i) + e + (j, l) where that is tighter, old entries read throughout
unfoldable pub limited_m : ℕ → ℕ → ℕ → Upper ℤ → Matrix (Upper ℤ) → Matrix (Upper ℤ)
limited_m w i j e m k l = cond (inside w k l) (tighter_of (sum_w (sum_w (m k i) e) (m j l)) (m k l)) (m k l)

-- what a limit leaves of a matrix
pub data Outcome : Type 0 where
  void : Outcome
  kept : Matrix (Upper ℤ) → Outcome

-- A limit i - j with weight e: (1) if e + (j, i) is tighter than zero, not strict, void; (2) if e isn't tighter than (i, j), the matrix
-- stays; (3) else as above
unfoldable pub guarded : ℕ → ℕ → ℕ → Upper ℤ → Matrix (Upper ℤ) → Outcome
guarded w i j e m = cond (tighter_w (sum_w e (m j i)) zero_w) void (kept (cond (tighter_w e (m i j)) (limited_m w i j e m) m))

-- ---- states (paper 01, "Runs")
-- with D parts to a minute, a difference d of parts is compared with D times the weight's number
abbrev pub Below : ℕ → ℤ → Upper ℤ → Type 0
Below D d none = Unit
Below D d (upper false c) = d ≤ℤ (pos D *ℤ c)
Below D d (upper true c) = d <ℤ (pos D *ℤ c)

-- the difference d of parts Keeps the weight
pub record Keeps (D : ℕ) (d : ℤ) (a : Upper ℤ) : Type 0 where
  pub is_below : Below D d a

-- a state: at least one part to a minute, and the values of the clocks in parts, clock 0 being 0
pub record State (D : ℕ) (x : ℕ → ℤ) : Type 0 where
  pub parts : 1 ≤ D
  pub clock0 : x 0 ≡ pos 0

-- the state Keeps every entry
abbrev pub Meets : ℕ → Matrix (Upper ℤ) → ℕ → (ℕ → ℤ) → Type 0
Meets w m D x = (i j : ℕ) → i ≤ w → j ≤ w → Keeps D (x i -ℤ x j) (m i j)

-- every clock but clock 0 grows by d parts
unfoldable pub moved : ℕ → (ℕ → ℤ) → ℕ → ℤ
moved d x zero = x zero
moved d x (suc i) = x (suc i) +ℤ pos d

-- clock r put to v
unfoldable pub put : ℕ → ℤ → (ℕ → ℤ) → ℕ → ℤ
put r v x i = cond (eqb i r) v (x i)

-- every clock times K: the same state where there are K times as many parts to a minute
unfoldable pub times : ℕ → (ℕ → ℤ) → ℕ → ℤ
times K x i = pos K *ℤ x i

-- ---- closed matrices
-- the first weight is at least as tight as the second
infix 4 ◌⊑◌
pub record ◌⊑◌ (a b : Upper ℤ) : Type 0 where
  pub as_tight : tighter_w b a ≡ false

-- zero on the diagonal, and no entry can be tightened by way of a third clock
pub record Closed (w : ℕ) (m : Matrix (Upper ℤ)) : Type 0 where
  pub diagonal : (i : ℕ) → i ≤ w → m i i ≡ zero_w
  pub triangle : (i k j : ℕ) → i ≤ w → k ≤ w → j ≤ w → m i j ⊑ sum_w (m i k) (m k j)

-- ---- what the theorems say
-- an outcome is right for the states of m that have P: void where there are none, else a closed matrix whose states are just these
abbrev pub After : ℕ → Matrix (Upper ℤ) → (ℕ → (ℕ → ℤ) → Type 0) → Outcome → Type 0
After w m P void = (D : ℕ) (x : ℕ → ℤ) → State D x → Meets w m D x → ¬ (P D x)
After w m P (kept m') = Closed w m' × ((D : ℕ) (x : ℕ → ℤ) → State D x → (Meets w m' D x ↔ (Meets w m D x × P D x)))

-- some state meets the matrix
abbrev pub HasState : ℕ → Matrix (Upper ℤ) → Type 0
HasState w m = (D : ℕ) × (x : ℕ → ℤ) × State D x × Meets w m D x

-- some state of the matrix has P
abbrev pub SomeState : ℕ → Matrix (Upper ℤ) → (ℕ → (ℕ → ℤ) → Type 0) → Type 0
SomeState w m P = (D : ℕ) × (x : ℕ → ℤ) × State D x × Meets w m D x × P D x

-- the matrix's states come as near to a weight on clock i - clock j as can be (paper 01, "Runs", on tightest bounds):
-- none: for every whole N some state is above N; ≤ c: some state reaches c; < c: for every N ≥ 1 some state is less than 1/N Below c
abbrev pub Reached : ℕ → Matrix (Upper ℤ) → ℕ → ℕ → Upper ℤ → Type 0
Reached w m i j none = (N : ℤ) → SomeState w m (λ D x. (pos D *ℤ N) <ℤ (x i -ℤ x j))
Reached w m i j (upper false c) = SomeState w m (λ D x. x i -ℤ x j ≡ pos D *ℤ c)
Reached w m i j (upper true c) = (N : ℕ) → 1 ≤ N → SomeState w m (λ D x. (pos N *ℤ ((pos D *ℤ c) -ℤ (x i -ℤ x j))) <ℤ pos D)

-- ---- a weight and a matrix N times as large
unfoldable pub scale_w : ℕ → Upper ℤ → Upper ℤ
scale_w N none = none
scale_w N (upper s c) = upper s (pos N *ℤ c)

unfoldable pub scaled : ℕ → Matrix (Upper ℤ) → Matrix (Upper ℤ)
scaled N m i j = scale_w N (m i j)

-- an index past w
abbrev pub Outside : ℕ → ℕ → ℕ → Type 0
Outside w i j = (w < i) ⊎ (w < j)
