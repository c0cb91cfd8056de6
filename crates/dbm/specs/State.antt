-- States of a closed matrix: a state's multiples are states; a value for one clock more can always be found; so there is a state.
use Rattle.std.specs.Prelude.{◌≡◌, refl, ◌⊎◌, ◌≢◌, Bool, true, false, cond, ℕ, zero, suc, ◌*◌, ◌≤◌, eqb, ℤ, pos, ◌-ℤ◌, ◌*ℤ◌}
use Rattle.std.proofs.Common.{sym, ap, ◌∙◌, inl, inr, arith}
use Rattle.std.proofs.Math.Nat.{one-le-mul}
use Rattle.std.proofs.Math.IntN.{*ℤ-zero}
use Rattle.integer.specs.Product.{*ℤ-assoc, *ℤ-distribl, *ℤ-distribl-sub}
use Rattle.weight.specs.Upper.{Upper, none, sum_w, zero_w}
use Rattle.dbm.specs.Matrix.{Matrix, start, Keeps, State, Meets, moved, put, times, Closed, HasState}
use Rattle.dbm.specs.Weights.{⊑-≡, ⊑_trans, sum_comm, sum_none, zero_sum, keeps-⊑, keeps-≡, keeps_times, zero_keeps, no_difference}
use Rattle.dbm.specs.Entries.{eqb_yes, eqb_no, same_or_not, put_same, put_other}
use Rattle.dbm.specs.Density.{density}

-- ---- multiples
pub difference_times : (K : ℕ) (x : ℕ → ℤ) (i j : ℕ) → times K x i -ℤ times K x j ≡ pos K *ℤ (x i -ℤ x j)
unfolding times
difference_times K x i j = sym (*ℤ-distribl-sub (pos K) (x i) (x j))

pub times_state : {D : ℕ} {x : ℕ → ℤ} (K : ℕ) → 1 ≤ K → State D x → State (K * D) (times K x)
unfolding times
times_state K g s = record { parts = one-le-mul g s.parts; clock0 = ap (λ z. pos K *ℤ z) s.clock0 ∙ *ℤ-zero (pos K) }

-- a state times K is a state of the same matrix
pub times_meets : {w : ℕ} {m : Matrix (Upper ℤ)} {D : ℕ} (x : ℕ → ℤ) (K : ℕ) → 1 ≤ K → Meets w m D x → Meets w m (K * D) (times K x)
times_meets x K g h i j hi hj = keeps-≡ (difference_times K x i j) (keeps_times K g (h i j hi hj))

pub times_times : (K L : ℕ) (x : ℕ → ℤ) (i : ℕ) → times K (times L x) i ≡ times (K * L) x i
unfolding times
times_times K L x i = sym (*ℤ-assoc (pos K) (pos L) (x i))

-- multiples go with delays and with resets
pub times_moved : (K d : ℕ) (x : ℕ → ℤ) (i : ℕ) → times K (moved d x) i ≡ moved (K * d) (times K x) i
unfolding times moved
times_moved K d x zero = refl
times_moved K d x (suc i) = *ℤ-distribl (pos K) (x (suc i)) (pos d)

pub times_put : (K r : ℕ) (x : ℕ → ℤ) (i : ℕ) → times K (put r (pos 0) x) i ≡ put r (pos 0) (times K x) i
unfolding times put
times_put K r x i = by (eqb i r)
  where
    by : (b : Bool) → pos K *ℤ cond b (pos 0) (x i) ≡ cond b (pos 0) (pos K *ℤ x i)
    by true = *ℤ-zero (pos K)
    by false = refl

-- ---- only what lies within w counts
pub meets_same : {w : ℕ} {m : Matrix (Upper ℤ)} {D : ℕ} (x y : ℕ → ℤ) → ((i : ℕ) → i ≤ w → x i ≡ y i) → Meets w m D x → Meets w m D y
meets_same x y e h i j hi hj = rw (← e i hi, ← e j hj) (h i j hi hj)

pub meets_alike : {w : ℕ} {m m' : Matrix (Upper ℤ)} {D : ℕ} (x : ℕ → ℤ) → ((i j : ℕ) → i ≤ w → j ≤ w → m i j ≡ m' i j) → Meets w m D x
    → Meets w m' D x
meets_alike x e h i j hi hj = rw (← e i j hi hj) (h i j hi hj)

pub closed_alike : {w : ℕ} {m m' : Matrix (Upper ℤ)} → ((i j : ℕ) → i ≤ w → j ≤ w → m i j ≡ m' i j) → Closed w m → Closed w m'
closed_alike e c = record {
  diagonal = λ i hi. sym (e i i hi hi) ∙ c.diagonal i hi;
  triangle = λ i k j hi hk hj. rw (← e i j hi hj, ← e i k hi hk, ← e k j hk hj) (c.triangle i k j hi hk hj);
}

-- ---- weights that every state Keeps
pub keeps_none : (D : ℕ) (d : ℤ) → Keeps D d none
keeps_none D d = record { is_below = tt }

pub keeps_diagonal : {w : ℕ} {m : Matrix (Upper ℤ)} → Closed w m → (D : ℕ) (v : ℤ) (i : ℕ) → i ≤ w → Keeps D (v -ℤ v) (m i i)
keeps_diagonal c D v i hi = rw (c.diagonal i hi) (keeps-≡ (no_difference v) (zero_keeps D))

-- ---- one clock more: a state of all clocks but r, doubled, has a value for clock r
module _ {w : ℕ} {m : Matrix (Upper ℤ)} (c : Closed w m) (D : ℕ) (y : ℕ → ℤ) (parts : 1 ≤ D) (r : ℕ) (hr : r ≤ w)
    (h : (i j : ℕ) → i ≤ w → j ≤ w → i ≢ r → j ≢ r → Keeps D (y i -ℤ y j) (m i j)) where
  -- clock r's bounds against the other clocks, none against itself
  tops : ℕ → Upper ℤ
  tops i = cond (eqb i r) none (m r i)

  bottoms : ℕ → Upper ℤ
  bottoms j = cond (eqb j r) none (m j r)

  apart : (i j : ℕ) → i ≤ w → j ≤ w → (i ≡ r) ⊎ (i ≢ r) → (j ≡ r) ⊎ (j ≢ r) → Keeps D (y j -ℤ y i) (sum_w (tops i) (bottoms j))
  unfolding tops bottoms sum_w
  apart i j hi hj (inl a) b = rw (a, eqb_yes r) (keeps_none D (y j -ℤ y r))
  apart i j hi hj (inr a) (inl b) = rw (b, eqb_yes r, sum_none) (keeps_none D (y r -ℤ y i))
  apart i j hi hj (inr a) (inr b) = rw (eqb_no i r a, eqb_no j r b)
      (keeps-⊑ parts (⊑_trans (c.triangle j r i hj hr hi) (⊑-≡ (sum_comm (m j r) (m r i)))) (h j i hj hi b a))

  Found : ℤ → Type 0
  Found v =
      ((i : ℕ) → i ≤ w → Keeps (2 * D) (v -ℤ (pos 2 *ℤ y i)) (tops i))
      × ((j : ℕ) → j ≤ w → Keeps (2 * D) ((pos 2 *ℤ y j) -ℤ v) (bottoms j))

  found_meets : (v : ℤ) → Found v → (i j : ℕ) → i ≤ w → j ≤ w → (i ≡ r) ⊎ (i ≢ r) → (j ≡ r) ⊎ (j ≢ r)
      → Keeps (2 * D) (put r v (times 2 y) i -ℤ put r v (times 2 y) j) (m i j)
  unfolding Found tops bottoms times
  found_meets v f i j hi hj (inl a) (inl b) = rw (a, b) (keeps_diagonal c (2 * D) (put r v (times 2 y) r) r hr)
  found_meets v f i j hi hj (inl a) (inr b) = rw (a, put_same, put_other r v (times 2 y) j b) (rw (eqb_no j r b) at (f.0 j hj))
  found_meets v f i j hi hj (inr a) (inl b) = rw (b, put_same, put_other r v (times 2 y) i a) (rw (eqb_no i r a) at (f.1 i hi))
  found_meets v f i j hi hj (inr a) (inr b) = rw (put_other r v (times 2 y) i a, put_other r v (times 2 y) j b)
      (keeps-≡ (difference_times 2 y i j) (keeps_times 2 (omega arith) (h i j hi hj a b)))

  pub chosen : (v : ℤ) × Meets w m (2 * D) (put r v (times 2 y))
  unfolding Found
  chosen =
      let (v, f, g) = density w D y y tops bottoms (λ i j hi hj. apart i j hi hj (same_or_not i r) (same_or_not j r)) in
      (v, λ i j hi hj. found_meets v (f, g) i j hi hj (same_or_not i r) (same_or_not j r))

-- ---- a closed matrix has a state
pub closed_less : {v w : ℕ} {m : Matrix (Upper ℤ)} → v ≤ w → Closed w m → Closed v m
closed_less {v} {w} h c = record {
  diagonal = λ i hi. c.diagonal i (omega arith);
  triangle = λ i k j hi hk hj. c.triangle i k j (omega arith) (omega arith) (omega arith);
}

next_state : {n : ℕ} {m : Matrix (Upper ℤ)} → Closed (suc n) m → HasState n m → HasState (suc n) m
next_state {n} {m} c (D, x, s, h) =
    let (v, g) = chosen c D x s.parts (suc n) (omega arith) (λ i j hi hj a b. h i j (omega arith) (omega arith)) in (
      2 * D,
      put (suc n) v (times 2 x),
      record { parts = two.parts; clock0 = put_other (suc n) v (times 2 x) 0 (omega arith) ∙ two.clock0 },
      g,
    )
  where
    two : State (2 * D) (times 2 x)
    two = times_state 2 (omega arith) s

pub closed_state : (w : ℕ) {m : Matrix (Upper ℤ)} → Closed w m → HasState w m
closed_state zero {m} c = (1, λ i. pos 0, record { parts = omega arith; clock0 = refl }, only)
  where
    only : Meets 0 m 1 (λ i. pos 0)
    only i j hi hj = let a : i ≡ 0 = omega arith in let b : j ≡ 0 = omega arith in rw (a, b) (keeps_diagonal c 1 (pos 0) 0 (omega arith))
closed_state (suc n) c = next_state c (closed_state n (closed_less (omega arith) c))

-- ---- the start
pub start_closed : (w : ℕ) → Closed w start
unfolding start
start_closed w = record { diagonal = λ i hi. refl; triangle = λ i k j hi hk hj. ⊑-≡ (sym (zero_sum zero_w)) }

-- all clocks at 0 meet it
pub start_met : (w D : ℕ) (x : ℕ → ℤ) → ((i : ℕ) → i ≤ w → x i ≡ pos 0) → Meets w start D x
unfolding start
start_met w D x h i j hi hj = rw (h i hi, h j hj) (keeps-≡ (no_difference (pos 0)) (zero_keeps D))
