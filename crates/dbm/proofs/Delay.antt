-- A delay (paper 01: a wait) on a closed matrix: the result is closed, every state moved on meets it, and each of its states, doubled, is
-- a state moved on.
use Rattle.std.specs.Prelude.{◌≡◌, refl, ℤ, negsuc, ◌+ℤ◌, ◌-ℤ◌, ◌≤ℤ◌}
use Rattle.std.proofs.Common.{sym, ◌∙◌, arith}
use Prim.Native.Nat.{ℕ, zero, suc, ◌*◌, ◌≤◌}
use Rattle.std.proofs.Math.IntN.{pos, -ℤ-+ℤ_cancel}
use Rattle.integer.specs.Parts.{p, n, +-parts, -parts, pos_parts, zs}
use Rattle.integer.specs.Split.{split, split-all}
use Rattle.weight.specs.Upper.{Upper, none, sum_w, zero_w}
use Rattle.dbm.specs.Matrix.{Matrix, delayed, Keeps, State, Meets, moved, times, ◌⊑◌, Closed}
use Rattle.dbm.specs.Weights.{⊑_refl, ⊑-≡, ⊑_trans, ⊑-none, sum_mono, sum_comm, sum_none, keeps-⊑, keeps-≤, keeps-≡, keeps_in}
use Rattle.dbm.specs.Weights.{keeps_times}
use Rattle.dbm.specs.Entries.{delayed_none, delayed_zero, delayed_stays}
use Rattle.dbm.specs.Density.{density}
use Rattle.dbm.specs.State.{difference_times, times_state, keeps_none, keeps_diagonal}

-- ---- the new matrix is closed
module _ (w : ℕ) (m : Matrix (Upper ℤ)) where
  pub delayed_looser : (i j : ℕ) → i ≤ w → m i j ⊑ delayed w none m i j
  delayed_looser zero zero h = ⊑-≡ (sym (delayed_zero w none m 0))
  delayed_looser zero (suc j) h = ⊑-≡ (sym (delayed_zero w none m (suc j)))
  delayed_looser (suc i) zero h = rw (delayed_none w none m i h) (⊑-none (m (suc i) 0))
  delayed_looser (suc i) (suc j) h = ⊑-≡ (sym (delayed_stays w none m (suc i) j))

module _ {w : ℕ} {m : Matrix (Upper ℤ)} (c : Closed w m) where
  old_triangle : (i k j : ℕ) → i ≤ w → k ≤ w → j ≤ w → m i j ⊑ sum_w (delayed w none m i k) (delayed w none m k j)
  old_triangle i k j hi hk hj = ⊑_trans (c.triangle i k j hi hk hj) (sum_mono (delayed_looser w m i k hi) (delayed_looser w m k j hk))

  delayed_triangle : (i k j : ℕ) → i ≤ w → k ≤ w → j ≤ w → delayed w none m i j ⊑ sum_w (delayed w none m i k) (delayed w none m k j)
  unfolding sum_w
  delayed_triangle zero k zero hi hk hj = rw (delayed_zero w none m 0) (old_triangle 0 k 0 hi hk hj)
  delayed_triangle (suc i) zero zero hi hk hj = rw (delayed_none w none m i hi) (⊑_refl none)
  delayed_triangle (suc i) (suc k) zero hi hk hj = rw (delayed_none w none m k hk, sum_none) (⊑-none (delayed w none m (suc i) 0))
  delayed_triangle i k (suc j) hi hk hj = rw (delayed_stays w none m i j) (old_triangle i k (suc j) hi hk hj)

  delayed_diagonal : (i : ℕ) → i ≤ w → delayed w none m i i ≡ zero_w
  delayed_diagonal zero h = delayed_zero w none m 0 ∙ c.diagonal 0 h
  delayed_diagonal (suc i) h = delayed_stays w none m (suc i) i ∙ c.diagonal (suc i) h

  pub delayed_closed : Closed w (delayed w none m)
  delayed_closed = record { diagonal = delayed_diagonal; triangle = delayed_triangle }

-- ---- its states
less_by : (x y : ℤ) (d : ℕ) → (x -ℤ (y +ℤ pos d)) ≤ℤ (x -ℤ y)
less_by x y d = omega (zs, -parts x (y +ℤ pos d), -parts x y, +-parts y (pos d), pos_parts d)

both_moved : (x y : ℤ) (d : ℕ) → (x +ℤ pos d) -ℤ (y +ℤ pos d) ≡ x -ℤ y
both_moved x y d = rw (split x, split y) (simp split-all (omega arith))

-- a state moved on
pub delayed_met : {w : ℕ} {m : Matrix (Upper ℤ)} {D : ℕ} (x : ℕ → ℤ) (d : ℕ) → Meets w m D x → Meets w (delayed w none m) D (moved d x)
unfolding moved
delayed_met {w} {m} x d h zero zero hi hj = rw (delayed_zero w none m 0) (h 0 0 hi hj)
delayed_met {w} {m} x d h zero (suc j) hi hj =
    rw (delayed_zero w none m (suc j)) (keeps-≤ (less_by (x 0) (x (suc j)) d) (h 0 (suc j) hi hj))
delayed_met {w} {m} {D} x d h (suc i) zero hi hj = rw (delayed_none w none m i hi) (keeps_none D ((x (suc i) +ℤ pos d) -ℤ x 0))
delayed_met {w} {m} x d h (suc i) (suc j) hi hj =
    rw (delayed_stays w none m (suc i) j) (keeps-≡ (both_moved (x (suc i)) (x (suc j)) d) (h (suc i) (suc j) hi hj))

-- and back: every clock but clock 0 d parts earlier
unfoldable pub moved_back : ℕ → (ℕ → ℤ) → ℕ → ℤ
moved_back d x zero = x zero
moved_back d x (suc i) = x (suc i) -ℤ pos d

pub moved_moved_back : (d : ℕ) (x : ℕ → ℤ) (i : ℕ) → moved d (moved_back d x) i ≡ x i
unfolding moved moved_back
moved_moved_back d x zero = refl
moved_moved_back d x (suc i) = -ℤ-+ℤ_cancel (x (suc i)) (pos d)

both_back : (x y v : ℤ) → (x -ℤ v) -ℤ (y -ℤ v) ≡ x -ℤ y
both_back x y v = rw (split x, split y, split v) (simp split-all (omega arith))

from_zero : (y v : ℤ) → pos 0 -ℤ (y -ℤ v) ≡ v -ℤ y
from_zero y v = rw (split y, split v) (simp split-all (omega arith))

to_zero : (y : ℤ) → y -ℤ pos 0 ≡ y
to_zero y = rw (split y) (simp split-all (omega arith))

not_negative : (D : ℕ) (v : ℤ) → Keeps D (pos 0 -ℤ v) zero_w → pos 0 ≤ℤ v
unfolding p n
not_negative D v h = omega (zs, keeps_in zero_w h, -parts (pos 0) v)

as_natural : (v : ℤ) → pos 0 ≤ℤ v → (d : ℕ) × (v ≡ pos d)
as_natural (pos d) h = (d, refl)
as_natural (negsuc d) h = absurd h.le

module _ {w : ℕ} {m : Matrix (Upper ℤ)} (c : Closed w m) {D : ℕ} {y : ℕ → ℤ} (s : State D y) (h : Meets w (delayed w none m) D y) where
  -- how much the delay may be, by each clock: the bounds of clock 0 against the others, and that it is not negative
  tops : ℕ → Upper ℤ
  tops zero = none
  tops (suc j) = m 0 (suc j)

  apart : (i j : ℕ) → i ≤ w → j ≤ w → Keeps D (y j -ℤ y i) (sum_w (tops i) (m j 0))
  unfolding tops sum_w
  apart zero j hi hj = keeps_none D (y j -ℤ y 0)
  apart (suc i) j hi hj = keeps-⊑ s.parts
      (⊑_trans (c.triangle j 0 (suc i) hj (omega arith) hi) (⊑-≡ (sum_comm (m j 0) (m 0 (suc i)))))
      (rw (delayed_stays w none m j i) at (h j (suc i) hj hi))

  zero2 : times 2 y 0 ≡ pos 0
  zero2 = (times_state 2 (omega arith) s).clock0

  -- the states before the delay, and after it
  Came : Type 0
  Came = (d : ℕ) × (x : ℕ → ℤ) × State (2 * D) x × Meets w m (2 * D) x × ((i : ℕ) → moved d x i ≡ times 2 y i)

  module _ (d : ℕ)
      (f : (i : ℕ) → i ≤ w → Keeps (2 * D) (pos d -ℤ times 2 y i) (tops i))
      (g : (j : ℕ) → j ≤ w → Keeps (2 * D) (times 2 y j -ℤ pos d) (m j 0)) where
    before_meets : Meets w m (2 * D) (moved_back d (times 2 y))
    unfolding moved_back tops
    before_meets zero zero hi hj = keeps_diagonal c (2 * D) (times 2 y 0) 0 hi
    before_meets zero (suc j) hi hj = rw zero2 (keeps-≡ (from_zero (times 2 y (suc j)) (pos d)) (f (suc j) hj))
    before_meets (suc i) zero hi hj = rw zero2 (keeps-≡ (to_zero (times 2 y (suc i) -ℤ pos d)) (g (suc i) hi))
    before_meets (suc i) (suc j) hi hj =
        keeps-≡ (both_back (times 2 y (suc i)) (times 2 y (suc j)) (pos d) ∙ difference_times 2 y (suc i) (suc j))
        (keeps_times 2 (omega arith) (rw (delayed_stays w none m (suc i) j) at (h (suc i) (suc j) hi hj)))

    before_state : State (2 * D) (moved_back d (times 2 y))
    unfolding moved_back
    before_state = record { parts = (times_state 2 (omega arith) s).parts; clock0 = zero2 }

    came : Came
    unfolding Came
    came = (d, moved_back d (times 2 y), before_state, before_meets, moved_moved_back d (times 2 y))

  pub delayed_from : (d : ℕ) × (x : ℕ → ℤ) × State (2 * D) x × Meets w m (2 * D) x × ((i : ℕ) → moved d x i ≡ times 2 y i)
  unfolding Came times
  delayed_from =
      let (v, f, g) = density w D y y tops (λ j. m j 0) apart in
      let (d, e) = as_natural v (not_negative (2 * D) v (rw (c.diagonal 0 (omega arith), zero2) at (g 0 (omega arith)))) in
      came d (rw e at f) (rw e at g)
