-- A reset of a clock on a closed matrix: the result is closed, every state with the clock put to 0 meets it, and each of its states,
-- doubled, is such a state.
use Rattle.std.specs.Prelude.{◌≡◌, ◌⊎◌, ◌≢◌, Bool, ℕ, ◌*◌, ◌≤◌, eqb, ℤ, pos, ◌-ℤ◌}
use Rattle.std.proofs.Math.Path.{refl, sym}
use Rattle.std.proofs.Common.{◌∙◌, inl, inr, arith}
use Rattle.std.proofs.Math.Bool.{true, false, cond}
use Rattle.std.proofs.Math.IntN.{*ℤ-zero}
use Rattle.integer.specs.Parts.{p, n, -parts, zs}
use Rattle.weight.specs.Upper.{Upper, zero_w}
use Rattle.dbm.specs.Matrix.{Matrix, reset_m, Keeps, State, Meets, put, times, Closed}
use Rattle.dbm.specs.Weights.{keeps_in}
use Rattle.dbm.specs.Entries.{same_or_not, source, source-≤, source_same, source_0, source_other, put_same, put_other}
use Rattle.dbm.proofs.Entries.{reset_inside}
use Rattle.dbm.specs.State.{times_state, chosen}

module _ {w r : ℕ} {m : Matrix (Upper ℤ)} (c : Closed w m) (hr : r ≤ w) where
  -- in a closed matrix a reset reads clock 0 for clock r
  pub reset_entry_lem : (i j : ℕ) → i ≤ w → j ≤ w → reset_m w r m i j ≡ m (source r i) (source r j)
  reset_entry_lem i j hi hj = reset_inside w r m i j hi hj (λ e. c.diagonal r hr ∙ sym (c.diagonal 0 (omega arith)))

  -- ---- the new matrix is closed
  pub reset_closed : Closed w (reset_m w r m)
  reset_closed = record {
    diagonal = λ i hi. reset_entry_lem i i hi hi ∙ c.diagonal (source r i) (source-≤ w r i hi);
    triangle = λ i k j hi hk hj. rw (reset_entry_lem i j hi hj, reset_entry_lem i k hi hk, reset_entry_lem k j hk hj)
        (c.triangle (source r i) (source r k) (source r j) (source-≤ w r i hi) (source-≤ w r k hk) (source-≤ w r j hj));
  }

  -- ---- its states
  put_source : (x : ℕ → ℤ) → x 0 ≡ pos 0 → (i : ℕ) → put r (pos 0) x i ≡ x (source r i)
  unfolding put
  put_source x e i = by (eqb i r)
    where
      by : (b : Bool) → cond b (pos 0) (x i) ≡ x (cond b 0 i)
      by true = sym e
      by false = refl

  -- a state with clock r put to 0
  pub reset_met : {D : ℕ} {x : ℕ → ℤ} → State D x → Meets w m D x → Meets w (reset_m w r m) D (put r (pos 0) x)
  reset_met {D} {x} s h i j hi hj = rw (put_source x s.clock0 i, put_source x s.clock0 j, reset_entry_lem i j hi hj)
      (h (source r i) (source r j) (source-≤ w r i hi) (source-≤ w r j hj))

  module _ {D : ℕ} {y : ℕ → ℤ} (s : State D y) (h : Meets w (reset_m w r m) D y) where
    -- its states have clock r at 0
    at_zero : (x z : ℤ) → Keeps D (x -ℤ z) zero_w → Keeps D (z -ℤ x) zero_w → x ≡ z
    unfolding p n
    at_zero x z a b = omega (zs, keeps_in zero_w a, keeps_in zero_w b, -parts x z, -parts z x)

    entry_r0 : reset_m w r m r 0 ≡ zero_w
    entry_r0 = reset_entry_lem r 0 hr (omega arith) ∙ rw (source_same r, source_0 r) (c.diagonal 0 (omega arith))

    entry_0r : reset_m w r m 0 r ≡ zero_w
    entry_0r = reset_entry_lem 0 r (omega arith) hr ∙ rw (source_same r, source_0 r) (c.diagonal 0 (omega arith))

    pub reset_zero : y r ≡ pos 0
    reset_zero = at_zero (y r) (y 0) (rw entry_r0 at (h r 0 hr (omega arith))) (rw entry_0r at (h 0 r (omega arith) hr)) ∙ s.clock0

    others : (i j : ℕ) → i ≤ w → j ≤ w → i ≢ r → j ≢ r → Keeps D (y i -ℤ y j) (m i j)
    others i j hi hj a b = rw (reset_entry_lem i j hi hj, source_other r i a, source_other r j b) at (h i j hi hj)

    put_back : (v : ℤ) (i : ℕ) → (i ≡ r) ⊎ (i ≢ r) → put r (pos 0) (put r v (times 2 y)) i ≡ times 2 y i
    unfolding times
    put_back v i (inl a) = rw (a, put_same, reset_zero, *ℤ-zero) refl
    put_back v i (inr a) = put_other r (pos 0) (put r v (times 2 y)) i a ∙ put_other r v (times 2 y) i a

    two : State (2 * D) (times 2 y)
    two = times_state 2 (omega arith) s

    -- each of its states, doubled, is a state of the matrix with clock r put to 0
    pub reset_from : 1 ≤ r → (x : ℕ → ℤ) × State (2 * D) x × Meets w m (2 * D) x × ((i : ℕ) → put r (pos 0) x i ≡ times 2 y i)
    reset_from g =
        let (v, f) = chosen c D y s.parts r hr others in (
          put r v (times 2 y),
          record { parts = two.parts; clock0 = put_other r v (times 2 y) 0 (omega arith) ∙ two.clock0 },
          f,
          λ i. put_back v i (same_or_not i r),
        )
