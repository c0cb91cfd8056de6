-- What the code does to the table of a matrix in a wait, under a guard and in a reset is what Walk does to the matrix, where there are at
-- most four clocks and no number is past 2 ^ 57. A void table stays as it is.
use Rattle.std.specs.Prelude.{◌≡◌, List, [], ◌∷◌, Bool, leb, eqb, ℤ}
use Rattle.std.proofs.Math.Path.{refl, sym, ap}
use Rattle.std.proofs.Common.{◌∙◌, inl, inr, arith}
use Rattle.std.proofs.Math.Bool.{true, false, cond}
use Prim.Native.Nat.{ℕ, suc, ◌/◌, ◌%◌, ◌^◌, ◌≤◌}
use Rattle.std.proofs.Math.Dec.{ltb}
use Rattle.std.proofs.Math.ListN.{get_or, set}
use borrow.Author.Tests.{ltb-true, ltb-false, leb-true, eqb-true, eqb-false, le-ltb, eq-eqb, ne_eqb}
use Rattle.dbm.specs.Matrix.{Matrix, delayed, reset_at, reset_m, resets_m, limited_m, void, kept, guarded}
use Rattle.dbm.specs.Entries.{up_to_4, cond_same, reset_bit, bits_resets, inside_yes, limited_inside, limited_outside, delayed_none}
use Rattle.dbm.specs.Entries.{delayed_zero, delayed_stays, reset_outside}
use Rattle.dbm.proofs.Entries.{delayed_outside}
use Rattle.dbm.specs.Guard.{way}
use Rattle.dbm.specs.Size.{AtMost, Small}
use Rattle.weight.specs.Upper.{Upper, none, sum_w, tighter_w, zero_w, saturated}
use Rattle.expr.specs.Bounds.{at_v}
use Rattle.weight.specs.Records.{weight_of, zero_weight}
use Rattle.expr.specs.Records.{bound_as}
use Rattle.weight.specs.declared.Weight.{Weight}
use Rattle.guards.specs.declared.Guard.{Guard}
use Rattle.weight_matrix.specs.Tables.{void_table, row_of, entry_of, sum_c, tighter_c, limited_entry, limited_row, limited_line, limited_table}
use Rattle.weight_matrix.specs.Tables.{guarded_table, delayed_row, delayed_table, reset_entry, reset_row, reset_line, reset_table, reset_if}
use Rattle.weight_matrix.specs.Tables.{resets_table}
use Rattle.walk.specs.Walked.{guard_table, guards_table}
use Rattle.concrete.specs.Sizes.{loop_exact, way_exact, loop_tested, guard_tested, way_tested}
use Rattle.weight_matrix.specs.Records.{row}
use Rattle.walk.specs.Coded.{table, coded, tighter_of_lem, sum_of, cond_of, row_at, in_row, entry_at, table_not_void, row_of_lem}
use Rattle.walk.specs.Coded.{table_of, row_same}

-- ---- a wait
module _ (w : ℕ) (m : Matrix (Upper ℤ)) where
  delayed_line : (k : ℕ) (b : Bool) → ltb w (suc k) ≡ b → delayed_row b (row m (suc k)) ≡ row (delayed w none m) (suc k)
  unfolding delayed_row
  delayed_line k true h = row_same m (delayed w none m) (suc k) (λ j. sym (delayed_outside w none m (suc k) j (inl (ltb-true w (suc k) h))))
  delayed_line k false h = row_of_lem (delayed w none m) (suc k)
      (ap weight_of (sym (delayed_none w none m k (ltb-false w (suc k) h))))
      (same 0 (omega arith)) (same 1 (omega arith)) (same 2 (omega arith)) (same 3 (omega arith))
    where
      same : (j : ℕ) → suc j ≤ 4 → get_or (row m (suc k)) (suc j) zero_weight ≡ weight_of (delayed w none m (suc k) (suc j))
      same j hj = in_row m (suc k) (suc j) hj ∙ ap weight_of (sym (delayed_stays w none m (suc k) j))

  delayed_lines : (k : ℕ) → suc k ≤ 4 → delayed_row (ltb w (suc k)) (row_of (table m) (suc k)) ≡ row (delayed w none m) (suc k)
  delayed_lines k h = ap (delayed_row (ltb w (suc k))) (row_at m (suc k) h) ∙ delayed_line k (ltb w (suc k)) refl

  first_line : row_of (table m) 0 ≡ row (delayed w none m) 0
  first_line = row_at m 0 (omega arith) ∙ row_same m (delayed w none m) 0 (λ j. sym (delayed_zero w none m j))

  pub delayed_coded : m 0 0 ≡ zero_w → delayed_table (table m) w ≡ table (delayed w none m)
  unfolding delayed_table
  delayed_coded e = rw (table_not_void m e) (table_of (delayed w none m) first_line
      (delayed_lines 0 (omega arith)) (delayed_lines 1 (omega arith)) (delayed_lines 2 (omega arith)) (delayed_lines 3 (omega arith)))

pub delayed_void : (w : ℕ) → delayed_table void_table w ≡ void_table
unfolding delayed_table
delayed_void w = refl

-- ---- a guard
module _ {w i j : ℕ} {m : Matrix (Upper ℤ)} {e : Upper ℤ} (four : w ≤ 4) (hi : i ≤ w) (hj : j ≤ w)
    (small : Small w (2 ^ 57) m) (few : AtMost 4001000 e) where
  -- the code's sums are exact here
  way_coded : (k l : ℕ) → k ≤ w → l ≤ w → sum_c (sum_c (weight_of (m k i)) (weight_of e)) (weight_of (m j l)) ≡ weight_of (way i j e m k l)
  way_coded k l hk hl = ap (λ (a : Weight). sum_c a (weight_of (m j l))) (sum_of (m k i) e)
      ∙ sum_of (sum_w (saturated (m k i)) (saturated e)) (m j l)
      ∙ ap weight_of (way_exact small few i j k l hi hj hk hl)

  limited_entry_lem : (k l : ℕ) → k ≤ w → l ≤ 4 → (b : Bool) → ltb w l ≡ b
      → limited_entry b (get_or (row m k) l zero_weight) (sum_c (weight_of (m k i)) (weight_of e)) (get_or (row m j) l zero_weight)
      ≡ weight_of (limited_m w i j e m k l)
  unfolding limited_entry
  limited_entry_lem k l hk h4 true h = in_row m k l h4 ∙ ap weight_of (sym (limited_outside w i j e m k l (inr (ltb-true w l h))))
  limited_entry_lem k l hk h4 false h =
      let hl = ltb-false w l h in
      rw (in_row m k l h4, in_row m j l h4) (rw (way_coded k l hk hl)
      (rw (tighter_of_lem (way i j e m k l) (m k l), way_tested small few i j k l hi hj hk hl)
      (cond_of (tighter_w (way i j e m k l) (m k l)) (way i j e m k l) (m k l) ∙ ap weight_of (sym (limited_inside w i j e m k l hk hl)))))

  limited_row_lem : (k : ℕ) → k ≤ 4 → (b : Bool) → ltb w k ≡ b
      → cond b (row m k) (limited_row w (row m k) (sum_c (weight_of (m k i)) (weight_of e)) (row m j)) ≡ row (limited_m w i j e m) k
  unfolding limited_row
  limited_row_lem k h4 true h = row_same m (limited_m w i j e m) k (λ l. sym (limited_outside w i j e m k l (inl (ltb-true w k h))))
  limited_row_lem k h4 false h = row_of_lem (limited_m w i j e m) k (entry 0 (omega arith) false (le-ltb w 0 (omega arith)))
      (entry 1 (omega arith) (ltb w 1) refl) (entry 2 (omega arith) (ltb w 2) refl) (entry 3 (omega arith) (ltb w 3) refl)
      (entry 4 (omega arith) (ltb w 4) refl)
    where
      entry : (l : ℕ) → l ≤ 4 → (b : Bool) → ltb w l ≡ b
          → limited_entry b (get_or (row m k) l zero_weight) (sum_c (weight_of (m k i)) (weight_of e)) (get_or (row m j) l zero_weight)
          ≡ weight_of (limited_m w i j e m k l)
      entry l hl = limited_entry_lem k l (ltb-false w k h) hl

  limited_line_lem : (k : ℕ) → k ≤ 4 → limited_line (table m) w k i j (weight_of e) ≡ row (limited_m w i j e m) k
  unfolding limited_line
  limited_line_lem k h = rw (row_at m k h, row_at m j (omega arith)) (rw (in_row m k i (omega arith)) (limited_row_lem k h (ltb w k) refl))

  limited_coded : limited_table (table m) w i j (weight_of e) ≡ table (limited_m w i j e m)
  unfolding limited_table
  limited_coded = table_of (limited_m w i j e m) (limited_line_lem 0 (omega arith)) (limited_line_lem 1 (omega arith)) (limited_line_lem 2 (omega arith))
      (limited_line_lem 3 (omega arith)) (limited_line_lem 4 (omega arith))

  loop_coded : tighter_c (sum_c (weight_of e) (entry_of (table m) j i)) zero_weight ≡ tighter_w (sum_w e (m j i)) zero_w
  loop_coded = rw (entry_at m j i (omega arith) (omega arith))
      (rw (sum_of e (m j i)) (rw (loop_exact small few i j hi hj) (tighter_of_lem (sum_w e (m j i)) zero_w ∙ loop_tested small few i j hi hj)))

  by_tests : (t u : Bool) → cond t void_table (cond u (limited_table (table m) w i j (weight_of e)) (table m))
      ≡ coded (cond t void (kept (cond u (limited_m w i j e m) m)))
  unfolding coded
  by_tests true u = refl
  by_tests false true = limited_coded
  by_tests false false = refl

  pub guarded_coded : m 0 0 ≡ zero_w → guarded_table (table m) w i j (weight_of e) ≡ coded (guarded w i j e m)
  unfolding guarded_table guarded
  guarded_coded z = rw (le-ltb 4 i (omega arith), le-ltb 4 j (omega arith)) (rw (table_not_void m z) (rw loop_coded
      (rw (entry_at m i j (omega arith) (omega arith))
      (rw (tighter_of_lem e (m i j), guard_tested small few i j hi hj) (by_tests (tighter_w (sum_w e (m j i)) zero_w) (tighter_w e (m i j)))))))

pub guarded_void : (w i j : ℕ) (e : Weight) → guarded_table void_table w i j e ≡ void_table
unfolding guarded_table
guarded_void w i j e = rw (cond_same (ltb 4 j) void_table) (cond_same (ltb 4 i) void_table)

pub guards_void : (w : ℕ) (v : List ℤ) (gs : List Guard) → guards_table void_table w v gs ≡ void_table
unfolding guards_table guard_table
guards_void w v [] = refl
guards_void w v (g ∷ gs) = rw (guarded_void w g.left g.right (weight_of (at_v v (bound_as g.bound)))) (guards_void w v gs)

-- ---- a reset
eqb_swap : (a b : ℕ) → eqb a b ≡ eqb b a
eqb_swap a b = by (eqb b a) refl
  where
    by : (t : Bool) → eqb b a ≡ t → eqb a b ≡ t
    by true h = eq-eqb a b (sym (eqb-true b a h))
    by false h = ne_eqb a b (λ e. eqb-false b a h (sym e))

module _ {w r : ℕ} (m : Matrix (Upper ℤ)) (four : w ≤ 4) (hr : r ≤ w) where
  reset_inside : (k l : ℕ) → k ≤ w → l ≤ w → reset_m w r m k l ≡ reset_at m (eqb k r) (eqb l r) k l
  unfolding reset_m
  reset_inside k l hk hl = rw (inside_yes w k l hk hl) refl

  -- an entry in row r
  row_r_entry : (k l : ℕ) → k ≤ w → l ≤ 4 → eqb k r ≡ true → (b : Bool) → ltb w l ≡ b
      → reset_entry b (eqb r l) (get_or (row m k) l zero_weight) (get_or (row m 0) l zero_weight) ≡ weight_of (reset_m w r m k l)
  unfolding reset_entry
  row_r_entry k l hk h4 e true h = in_row m k l h4 ∙ ap weight_of (sym (reset_outside w r m k l (inr (ltb-true w l h))))
  row_r_entry k l hk h4 e false h =
      let hl = ltb-false w l h in
      rw (in_row m k l h4, in_row m 0 l h4, reset_inside k l hk hl, e, eqb_swap r l) (by (eqb l r))
    where
      by : (b : Bool) → cond b (weight_of (m k l)) (weight_of (m 0 l)) ≡ weight_of (reset_at m true b k l)
      by true = refl
      by false = refl

  -- an entry in another row
  other_entry : (k l : ℕ) → k ≤ w → eqb k r ≡ false → (b c : Bool) → ltb w l ≡ b → eqb l r ≡ c
      → cond c (weight_of (m k 0)) (weight_of (m k l)) ≡ weight_of (reset_m w r m k l)
  other_entry k l hk e true true h g =
      let hl = ltb-true w l h in
      let same = eqb-true l r g in
      absurd (omega arith)
  other_entry k l hk e true false h g = ap weight_of (sym (reset_outside w r m k l (inr (ltb-true w l h))))
  other_entry k l hk e false true h g = rw (reset_inside k l hk (ltb-false w l h), e, g) refl
  other_entry k l hk e false false h g = rw (reset_inside k l hk (ltb-false w l h), e, g) refl

  -- the code sets one place of a row
  set_row : (k : ℕ) (a : Weight)
      → set (row m k) r a
      ≡ (cond (eqb 0 r) a (weight_of (m k 0)) ∷ cond (eqb 1 r) a (weight_of (m k 1)) ∷ cond (eqb 2 r) a (weight_of (m k 2))
      ∷ cond (eqb 3 r) a (weight_of (m k 3)) ∷ cond (eqb 4 r) a (weight_of (m k 4)) ∷ [])
  unfolding row
  set_row k a = up_to_4 (λ r.
      set (row m k) r a
      ≡ (cond (eqb 0 r) a (weight_of (m k 0)) ∷ cond (eqb 1 r) a (weight_of (m k 1)) ∷ cond (eqb 2 r) a (weight_of (m k 2))
      ∷ cond (eqb 3 r) a (weight_of (m k 3)) ∷ cond (eqb 4 r) a (weight_of (m k 4)) ∷ []))
      refl refl refl refl refl r (omega arith)

  reset_row_lem : (k : ℕ) (b c : Bool) → ltb w k ≡ b → eqb k r ≡ c
      → cond b (row m k) (cond c (reset_row w r (row m k) (row m 0)) (set (row m k) r (get_or (row m k) 0 zero_weight))) ≡ row (reset_m w r m) k
  unfolding reset_row
  reset_row_lem k true c h e = row_same m (reset_m w r m) k (λ l. sym (reset_outside w r m k l (inl (ltb-true w k h))))
  reset_row_lem k false true h e = row_of_lem (reset_m w r m) k (entry 0 (omega arith) false (le-ltb w 0 (omega arith)))
      (entry 1 (omega arith) (ltb w 1) refl) (entry 2 (omega arith) (ltb w 2) refl) (entry 3 (omega arith) (ltb w 3) refl)
      (entry 4 (omega arith) (ltb w 4) refl)
    where
      entry : (l : ℕ) → l ≤ 4 → (b : Bool) → ltb w l ≡ b
          → reset_entry b (eqb r l) (get_or (row m k) l zero_weight) (get_or (row m 0) l zero_weight) ≡ weight_of (reset_m w r m k l)
      entry l hl = row_r_entry k l (ltb-false w k h) hl e
  reset_row_lem k false false h e = ap (set (row m k) r) (in_row m k 0 (omega arith)) ∙ set_row k (weight_of (m k 0))
      ∙ row_of_lem (reset_m w r m) k (entry 0) (entry 1) (entry 2) (entry 3) (entry 4)
    where
      entry : (l : ℕ) → cond (eqb l r) (weight_of (m k 0)) (weight_of (m k l)) ≡ weight_of (reset_m w r m k l)
      entry l = other_entry k l (ltb-false w k h) e (ltb w l) (eqb l r) refl refl

  reset_line_lem : (k : ℕ) → k ≤ 4 → reset_line (table m) w r k ≡ row (reset_m w r m) k
  unfolding reset_line
  reset_line_lem k h = rw (row_at m k h, row_at m 0 (omega arith)) (reset_row_lem k (ltb w k) (eqb k r) refl refl)

  pub reset_coded : reset_table (table m) w r ≡ table (reset_m w r m)
  unfolding reset_table
  reset_coded = table_of (reset_m w r m) (reset_line_lem 0 (omega arith)) (reset_line_lem 1 (omega arith)) (reset_line_lem 2 (omega arith))
      (reset_line_lem 3 (omega arith)) (reset_line_lem 4 (omega arith))

reset_if_lem : (w r bit : ℕ) (m : Matrix (Upper ℤ)) → w ≤ 4 → reset_if (table m) w r bit ≡ table (reset_bit w r bit m)
unfolding reset_if
reset_if_lem w r bit m four = by (eqb bit 1) (leb r w) refl
  where
    by : (b c : Bool) → leb r w ≡ c
        → cond b (cond c (reset_table (table m) w r) (table m)) (table m) ≡ table (cond b (cond c (reset_m w r m) m) m)
    by true true h = reset_coded m four (leb-true r w h)
    by true false h = refl
    by false c h = refl

pub resets_coded : (w bits : ℕ) (m : Matrix (Upper ℤ)) → w ≤ 4 → m 0 0 ≡ zero_w → resets_table (table m) w bits ≡ table (resets_m w bits w m)
unfolding resets_table
resets_coded w bits m four e = rw (table_not_void m e) (rw (← bits_resets bits m w four) (rw (reset_if_lem w 1 (bits % 2) m four)
    (rw (reset_if_lem w 2 (bits / 2 % 2) (reset_bit w 1 (bits % 2) m) four)
    (rw (reset_if_lem w 3 (bits / 4 % 2) (reset_bit w 2 (bits / 2 % 2) (reset_bit w 1 (bits % 2) m)) four)
    (reset_if_lem w 4 (bits / 8 % 2) (reset_bit w 3 (bits / 4 % 2) (reset_bit w 2 (bits / 2 % 2) (reset_bit w 1 (bits % 2) m))) four)))))

pub resets_void : (w bits : ℕ) → resets_table void_table w bits ≡ void_table
unfolding resets_table
resets_void w bits = refl
