-- Delays, guards and resets keep the sizes of specs/Size.
use Rattle.std.specs.Prelude.{◌≡◌, ◌⊎◌, Bool, true, false, cond, ℕ, zero, suc, ◌+◌, ◌≤◌, ℤ}
use Rattle.std.proofs.Math.Path.{refl}
use Rattle.std.proofs.Common.{sym, subst, inl, inr, arith}
use Rattle.weight.specs.Upper.{Upper, none, sum_w, tighter_w, zero_w}
use Rattle.dbm.specs.Matrix.{Matrix, delayed, reset_m, limited_m, Outcome, void, kept, guarded, ◌⊑◌, Closed}
use Rattle.dbm.specs.Weights.{⊑_refl, ⊑-≡, ⊑_trans, sum_mono, sum_assoc, sum_comm, sum_zero, zero_sum}
use Rattle.dbm.specs.Entries.{delayed_none, delayed_zero, delayed_stays, source, source_0, source-≤}
use Rattle.dbm.specs.Guard.{way, Which}
use Rattle.dbm.proofs.Guard.{limited_way, limited_old, limited_which, limited_stays, limited_closed}
use Rattle.dbm.proofs.Delay.{delayed_closed}
use Rattle.dbm.proofs.Reset.{reset_entry_lem, reset_closed}
use Rattle.dbm.specs.Size.{AtMost, Small, Visit, none_at_most, at_most_more, at_most_sum, small_visit}

-- ---- it begins after a delay
pub delayed_small : {w B : ℕ} {m : Matrix (Upper ℤ)} → Small w B m → Small w B (delayed w none m)
delayed_small {w} {B} {m} h zero zero hi hj = rw (delayed_zero w none m 0) (h 0 0 hi hj)
delayed_small {w} {B} {m} h zero (suc j) hi hj = rw (delayed_zero w none m (suc j)) (h 0 (suc j) hi hj)
delayed_small {w} {B} {m} h (suc i) zero hi hj = rw (delayed_none w none m i hi) (none_at_most B)
delayed_small {w} {B} {m} h (suc i) (suc j) hi hj = rw (delayed_stays w none m (suc i) j) (h (suc i) (suc j) hi hj)

pub delayed_visit : {w B : ℕ} {m : Matrix (Upper ℤ)} (C : ℕ) → Closed w m → Small w B m → Visit w B C (delayed w none m)
delayed_visit C c h = small_visit C (delayed_closed c) (delayed_small h)

-- ---- a guard keeps it
module _ {w B C : ℕ} {m : Matrix (Upper ℤ)} (v : Visit w B C m) {e : Upper ℤ} (small : AtMost C e) where
  corner : m 0 0 ≡ zero_w
  corner = v.closed.diagonal 0 (omega arith)

  -- clock i - clock 0
  module _ (i : ℕ) (hi : i ≤ w) (open_loop : zero_w ⊑ sum_w e (m 0 i)) where
    upper_end : (k : ℕ) → way i 0 e m k 0 ≡ sum_w (m k i) e
    upper_end k = rw (corner, sum_zero) refl

    upper_row_stays : (l : ℕ) → m 0 l ⊑ way i 0 e m 0 l
    upper_row_stays l = ⊑_trans (⊑-≡ (sym (zero_sum (m 0 l))))
        (⊑_trans (sum_mono open_loop (⊑_refl (m 0 l))) (⊑-≡ (rw (sum_comm e (m 0 i)) refl)))

    upper_column_stays : (k : ℕ) → sum_w (m k 0) (m 0 i) ⊑ m k i → m k 0 ⊑ way i 0 e m k 0
    upper_column_stays k h = rw (upper_end k) (⊑_trans (⊑-≡ (sym (sum_zero (m k 0)))) (⊑_trans (sum_mono (⊑_refl (m k 0)) open_loop)
        (⊑_trans (⊑-≡ (rw (sum_comm e (m 0 i)) (sym (sum_assoc (m k 0) (m 0 i) e)))) (sum_mono h (⊑_refl e)))))

    upper_column : (k : ℕ) → k ≤ w → AtMost (B + C) (limited_m w i 0 e m k 0)
    upper_column k hk = by (v.rest k i hk hi) (limited_which w i 0 e m k 0 hk (omega arith))
      where
        by : AtMost B (m k i) ⊎ (sum_w (m k 0) (m 0 i) ⊑ m k i)
            → Which w i 0 e m k 0
            → AtMost (B + C) (limited_m w i 0 e m k 0)
        by (inl h) (inl a) = rw (a.0, upper_end k) (at_most_sum h small)
        by (inr h) (inl a) = rw (limited_stays w i 0 e m k 0 hk (omega arith) (upper_column_stays k h)) (v.column k hk)
        by h (inr a) = rw a (v.column k hk)

    upper_rest : (k l : ℕ) → k ≤ w → l ≤ w
        → AtMost B (limited_m w i 0 e m k l) ⊎ (sum_w (limited_m w i 0 e m k 0) (limited_m w i 0 e m 0 l) ⊑ limited_m w i 0 e m k l)
    upper_rest k l hk hl = by (limited_which w i 0 e m k l hk hl) (v.rest k l hk hl)
      where
        old_row : limited_m w i 0 e m 0 l ⊑ m 0 l
        old_row = limited_old w i 0 e m 0 l (omega arith) hl

        by : Which w i 0 e m k l
            → AtMost B (m k l) ⊎ (sum_w (m k 0) (m 0 l) ⊑ m k l)
            → AtMost B (limited_m w i 0 e m k l) ⊎ (sum_w (limited_m w i 0 e m k 0) (limited_m w i 0 e m 0 l) ⊑ limited_m w i 0 e m k l)
        by (inl a) h = inr (rw a.0 (sum_mono (⊑_trans (limited_way w i 0 e m k 0 hk (omega arith)) (⊑-≡ (upper_end k))) old_row))
        by (inr a) (inl h) = inl (rw a h)
        by (inr a) (inr h) = inr (rw a (⊑_trans (sum_mono (limited_old w i 0 e m k 0 hk (omega arith)) old_row) h))

    upper_visit : Visit w B C (limited_m w i 0 e m)
    upper_visit = record {
      closed = limited_closed v.closed hi (omega arith) e open_loop;
      row = λ l hl. rw (limited_stays w i 0 e m 0 l (omega arith) hl (upper_row_stays l)) (v.row l hl);
      column = upper_column;
      rest = upper_rest;
    }

  -- clock 0 - clock j
  module _ (j : ℕ) (hj : j ≤ w) (open_loop : zero_w ⊑ sum_w e (m j 0)) where
    lower_end : (l : ℕ) → way 0 j e m 0 l ≡ sum_w e (m j l)
    lower_end l = rw (corner, zero_sum) refl

    lower_column_stays : (k : ℕ) → m k 0 ⊑ way 0 j e m k 0
    lower_column_stays k = ⊑_trans (⊑-≡ (sym (sum_zero (m k 0))))
        (⊑_trans (sum_mono (⊑_refl (m k 0)) open_loop) (⊑-≡ (sym (sum_assoc (m k 0) e (m j 0)))))

    lower_row_stays : (l : ℕ) → sum_w (m j 0) (m 0 l) ⊑ m j l → m 0 l ⊑ way 0 j e m 0 l
    lower_row_stays l h = rw (lower_end l) (⊑_trans (⊑-≡ (sym (zero_sum (m 0 l)))) (⊑_trans (sum_mono open_loop (⊑_refl (m 0 l)))
        (⊑_trans (⊑-≡ (sum_assoc e (m j 0) (m 0 l))) (sum_mono (⊑_refl e) h))))

    lower_row : (l : ℕ) → l ≤ w → AtMost (B + C) (limited_m w 0 j e m 0 l)
    lower_row l hl = by (v.rest j l hj hl) (limited_which w 0 j e m 0 l (omega arith) hl)
      where
        by : AtMost B (m j l) ⊎ (sum_w (m j 0) (m 0 l) ⊑ m j l)
            → Which w 0 j e m 0 l
            → AtMost (B + C) (limited_m w 0 j e m 0 l)
        by (inl h) (inl a) = rw (a.0, lower_end l) (at_most_more (omega arith) (at_most_sum small h))
        by (inr h) (inl a) = rw (limited_stays w 0 j e m 0 l (omega arith) hl (lower_row_stays l h)) (v.row l hl)
        by h (inr a) = rw a (v.row l hl)

    lower_rest : (k l : ℕ) → k ≤ w → l ≤ w
        → AtMost B (limited_m w 0 j e m k l) ⊎ (sum_w (limited_m w 0 j e m k 0) (limited_m w 0 j e m 0 l) ⊑ limited_m w 0 j e m k l)
    lower_rest k l hk hl = by (limited_which w 0 j e m k l hk hl) (v.rest k l hk hl)
      where
        old_column : limited_m w 0 j e m k 0 ⊑ m k 0
        old_column = limited_old w 0 j e m k 0 hk (omega arith)

        by : Which w 0 j e m k l
            → AtMost B (m k l) ⊎ (sum_w (m k 0) (m 0 l) ⊑ m k l)
            → AtMost B (limited_m w 0 j e m k l) ⊎ (sum_w (limited_m w 0 j e m k 0) (limited_m w 0 j e m 0 l) ⊑ limited_m w 0 j e m k l)
        by (inl a) h = inr (rw (a.0, sum_assoc (m k 0) e (m j l))
            (sum_mono old_column (⊑_trans (limited_way w 0 j e m 0 l (omega arith) hl) (⊑-≡ (lower_end l)))))
        by (inr a) (inl h) = inl (rw a h)
        by (inr a) (inr h) = inr (rw a (⊑_trans (sum_mono old_column (limited_old w 0 j e m 0 l (omega arith) hl)) h))

    lower_visit : Visit w B C (limited_m w 0 j e m)
    lower_visit = record {
      closed = limited_closed v.closed (omega arith) hj e open_loop;
      row = lower_row;
      column = λ k hk. rw (limited_stays w 0 j e m k 0 hk (omega arith) (lower_column_stays k)) (v.column k hk);
      rest = lower_rest;
    }

  module _ (i j : ℕ) (hi : i ≤ w) (hj : j ≤ w) (one_clock : (i ≡ 0) ⊎ (j ≡ 0)) where
    pub limited_visit : zero_w ⊑ sum_w e (m j i) → Visit w B C (limited_m w i j e m)
    limited_visit a = by one_clock
      where
        by : (i ≡ 0) ⊎ (j ≡ 0) → Visit w B C (limited_m w i j e m)
        by (inl h) = rw h (lower_visit j hj (rw h at a))
        by (inr h) = rw h (upper_visit i hi (rw h at a))

    -- the outcome, if it is a matrix
    abbrev Kept : Outcome → Type 0
    Kept void = Unit
    Kept (kept m') = Visit w B C m'

    by_tests : (t u : Bool) → tighter_w (sum_w e (m j i)) zero_w ≡ t → Kept (cond t void (kept (cond u (limited_m w i j e m) m)))
    by_tests true u h = tt
    by_tests false true h = limited_visit (record { as_tight = h })
    by_tests false false h = v

    guarded_kept : Kept (guarded w i j e m)
    unfolding guarded
    guarded_kept = by_tests (tighter_w (sum_w e (m j i)) zero_w) (tighter_w e (m i j)) refl

    pub guarded_visit : {m' : Matrix (Upper ℤ)} → guarded w i j e m ≡ kept m' → Visit w B C m'
    guarded_visit h = subst Kept h guarded_kept

-- ---- a reset keeps it
pub reset_visit : {w B C : ℕ} {m : Matrix (Upper ℤ)} (r : ℕ) → r ≤ w → Visit w B C m → Visit w B C (reset_m w r m)
reset_visit {w} {B} {C} {m} r hr v = record {
  closed = reset_closed v.closed hr;
  row = λ l hl. rw (entry 0 l (omega arith) hl, source_0 r) (v.row (source r l) (source-≤ w r l hl));
  column = λ k hk. rw (entry k 0 hk (omega arith), source_0 r) (v.column (source r k) (source-≤ w r k hk));
  rest = λ k l hk hl. rw (entry k l hk hl, entry k 0 hk (omega arith), entry 0 l (omega arith) hl, source_0 r)
      (v.rest (source r k) (source r l) (source-≤ w r k hk) (source-≤ w r l hl));
}
  where
    entry : (i j : ℕ) → i ≤ w → j ≤ w → reset_m w r m i j ≡ m (source r i) (source r j)
    entry = reset_entry_lem v.closed hr
