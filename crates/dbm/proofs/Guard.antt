-- A guard (paper 01: a limit) on a closed matrix: the result is closed, and its states are the matrix's states that meet the guard.
use Rattle.std.specs.Prelude.{◌≡◌, ◌↔◌, Bool, true, false, cond, ℕ, ◌≤◌, ℤ, ◌-ℤ◌}
use Rattle.std.proofs.Math.Path.{refl}
use Rattle.std.proofs.Common.{sym, subst, ◌∙◌, inl, inr}
use Rattle.integer.specs.Apart.{apart}
use Rattle.weight.specs.Upper.{Upper, sum_w, tighter_w, zero_w}
use Rattle.dbm.specs.Matrix.{Matrix, limited_m, void, kept, guarded, Keeps, State, Meets, ◌⊑◌, Closed, After, Outside}
use Rattle.dbm.specs.Weights.{⊑_refl, ⊑-≡, ⊑_trans, sum_mono, sum_assoc, sum_comm, sum_zero, zero_sum, keeps-⊑, keeps_via}
use Rattle.dbm.specs.Weights.{keeps-≡, keeps_zero, no_difference}
use Rattle.dbm.specs.Entries.{limited_inside, limited_outside, tighterOf-⊑, tighter_of_which, tighter_of_no}
use Rattle.dbm.specs.Guard.{way, Which}

-- ---- sums that a proof regroups
end_round : (a e b : Upper ℤ) → sum_w e (sum_w b a) ≡ sum_w (sum_w a e) b
end_round a e b = sym (sum_assoc e b a) ∙ sum_comm (sum_w e b) a ∙ sym (sum_assoc a e b)

-- ---- the entries after a guard
module _ (w i j : ℕ) (e : Upper ℤ) (m : Matrix (Upper ℤ)) where
  module _ (k l : ℕ) (hk : k ≤ w) (hl : l ≤ w) where
    pub limited_way : limited_m w i j e m k l ⊑ way i j e m k l
    limited_way = rw (limited_inside w i j e m k l hk hl) (tighterOf-⊑ (way i j e m k l) (m k l)).0

    pub limited_old : limited_m w i j e m k l ⊑ m k l
    limited_old = rw (limited_inside w i j e m k l hk hl) (tighterOf-⊑ (way i j e m k l) (m k l)).1

    pub limited_which : Which w i j e m k l
    limited_which = rw (limited_inside w i j e m k l hk hl) (tighter_of_which (way i j e m k l) (m k l))

    pub limited_stays : m k l ⊑ way i j e m k l → limited_m w i j e m k l ≡ m k l
    limited_stays h = limited_inside w i j e m k l hk hl ∙ tighter_of_no (way i j e m k l) (m k l) h

module _ {w i j : ℕ} {m : Matrix (Upper ℤ)} (c : Closed w m) (hi : i ≤ w) (hj : j ≤ w) (e : Upper ℤ) where
  -- ---- the new matrix is closed
  module _ (open_loop : zero_w ⊑ sum_w e (m j i)) where
    -- a round by the guard is never tighter than zero
    around : (q : ℕ) → q ≤ w → zero_w ⊑ sum_w e (sum_w (m j q) (m q i))
    around q hq = ⊑_trans open_loop (sum_mono (⊑_refl e) (c.triangle j q i hj hq hi))

    diagonal_way : (k : ℕ) → k ≤ w → m k k ⊑ way i j e m k k
    diagonal_way k hk = rw (c.diagonal k hk) (⊑_trans (around k hk) (⊑-≡ (end_round (m k i) e (m j k))))

    old_way : (k q l : ℕ) → k ≤ w → q ≤ w → way i j e m k l ⊑ sum_w (m k q) (way i j e m q l)
    old_way k q l hk hq = ⊑_trans (sum_mono (sum_mono (c.triangle k q i hk hq hi) (⊑_refl e)) (⊑_refl (m j l))) (⊑-≡ (simp sum_assoc))

    way_old : (k q l : ℕ) → q ≤ w → l ≤ w → way i j e m k l ⊑ sum_w (way i j e m k q) (m q l)
    way_old k q l hq hl = ⊑_trans (sum_mono (⊑_refl (sum_w (m k i) e)) (c.triangle j q l hj hq hl)) (⊑-≡ (simp sum_assoc))

    way_way : (k q l : ℕ) → q ≤ w → way i j e m k l ⊑ sum_w (way i j e m k q) (way i j e m q l)
    way_way k q l hq =
        ⊑_trans (⊑-≡ {b = sum_w (sum_w (m k i) zero_w) (sum_w e (m j l))} (simp (sum_zero, sum_assoc)))
        (⊑_trans (sum_mono (sum_mono (⊑_refl (m k i)) (around q hq)) (⊑_refl (sum_w e (m j l)))) (⊑-≡ (simp sum_assoc)))

    limited_triangle : (k q l : ℕ) → k ≤ w → q ≤ w → l ≤ w
        → limited_m w i j e m k l ⊑ sum_w (limited_m w i j e m k q) (limited_m w i j e m q l)
    limited_triangle k q l hk hq hl = by (limited_which w i j e m k q hk hq) (limited_which w i j e m q l hq hl)
      where
        by : Which w i j e m k q
            → Which w i j e m q l
            → limited_m w i j e m k l ⊑ sum_w (limited_m w i j e m k q) (limited_m w i j e m q l)
        by (inl a) (inl b) = rw (a.0, b.0) (⊑_trans (limited_way w i j e m k l hk hl) (way_way k q l hq))
        by (inl a) (inr b) = rw (a.0, b) (⊑_trans (limited_way w i j e m k l hk hl) (way_old k q l hq hl))
        by (inr a) (inl b) = rw (a, b.0) (⊑_trans (limited_way w i j e m k l hk hl) (old_way k q l hk hq))
        by (inr a) (inr b) = rw (a, b) (⊑_trans (limited_old w i j e m k l hk hl) (c.triangle k q l hk hq hl))

    pub limited_closed : Closed w (limited_m w i j e m)
    limited_closed = record {
      diagonal = λ k hk. limited_stays w i j e m k k hk hk (diagonal_way k hk) ∙ c.diagonal k hk;
      triangle = limited_triangle;
    }

  -- ---- its states
  module _ {D : ℕ} {x : ℕ → ℤ} (s : State D x) where
    limited_holds : Meets w (limited_m w i j e m) D x → Keeps D (x i -ℤ x j) e
    limited_holds h = keeps-⊑ s.parts (⊑_trans (limited_way w i j e m i j hi hj) (⊑-≡ ends)) (h i j hi hj)
      where
        ends : way i j e m i j ≡ e
        ends = rw (c.diagonal i hi, c.diagonal j hj, zero_sum e, sum_zero e) refl

    limited_meets : Meets w m D x → Keeps D (x i -ℤ x j) e → Meets w (limited_m w i j e m) D x
    limited_meets h g k l hk hl = by (limited_which w i j e m k l hk hl)
      where
        by : Which w i j e m k l
            → Keeps D (x k -ℤ x l) (limited_m w i j e m k l)
        by (inl a) = rw a.0 (keeps_via (x k) (x j) (x l) (keeps_via (x k) (x i) (x j) (h k i hk hi) g) (h j l hj hl))
        by (inr a) = rw a (h k l hk hl)

    -- its states are the states that meet the guard
    pub limited_met : Meets w (limited_m w i j e m) D x ↔ (Meets w m D x × Keeps D (x i -ℤ x j) e)
    limited_met = (
      λ h. (λ k l hk hl. keeps-⊑ s.parts (limited_old w i j e m k l hk hl) (h k l hk hl), limited_holds h),
      λ h. limited_meets h.0 h.1,
    )

    -- a state that meets the guard shows that the guard does not leave it void
    pub limited_empty : Meets w m D x → Keeps D (x i -ℤ x j) e → zero_w ⊑ sum_w e (m j i)
    limited_empty h g =
        keeps_zero (sum_w e (m j i)) s.parts (keeps-≡ (sym (no_difference (x i))) (keeps_via (x i) (x j) (x i) g (h j i hj hi)))

    -- where the guard is no tighter than the entry, every state meets it
    pub guard_idle : m i j ⊑ e → Meets w m D x → Keeps D (x i -ℤ x j) e
    guard_idle a h = keeps-⊑ s.parts a (h i j hi hj)

-- ---- the whole rule
module _ {w i j : ℕ} {m : Matrix (Upper ℤ)} (c : Closed w m) (hi : i ≤ w) (hj : j ≤ w) (e : Upper ℤ) where
  abbrev Meant : ℕ → (ℕ → ℤ) → Type 0
  Meant D x = Keeps D (x i -ℤ x j) e

  kept_after : zero_w ⊑ sum_w e (m j i) → (b : Bool) → tighter_w e (m i j) ≡ b → After w m Meant (kept (cond b (limited_m w i j e m) m))
  kept_after a true h = (limited_closed c hi hj e a, λ D x s. limited_met c hi hj e s)
  kept_after a false h = (c, λ D x s. (λ g. (g, guard_idle c hi hj e s (record { as_tight = h }) g), λ g. g.0))

  by_tests : (b : Bool) → tighter_w (sum_w e (m j i)) zero_w ≡ b
      → After w m Meant (cond b void (kept (cond (tighter_w e (m i j)) (limited_m w i j e m) m)))
  by_tests true h = λ D x s g k. never (limited_empty c hi hj e s g k)
    where
      never : zero_w ⊑ sum_w e (m j i) → ⊥
      never a = let z : ◌≡◌ {A = Bool} true false = sym h ∙ a.as_tight in apart cc
  by_tests false h = kept_after (record { as_tight = h }) (tighter_w e (m i j)) refl

  pub guarded_right : After w m (λ D x. Keeps D (x i -ℤ x j) e) (guarded w i j e m)
  unfolding guarded
  guarded_right = by_tests (tighter_w (sum_w e (m j i)) zero_w) refl

  -- void: no state of the matrix meets the guard
  pub guarded_void : guarded w i j e m ≡ void → (D : ℕ) (x : ℕ → ℤ) → State D x → Meets w m D x → ¬ (Keeps D (x i -ℤ x j) e)
  guarded_void h = subst (After w m (λ D x. Keeps D (x i -ℤ x j) e)) h guarded_right

  -- kept: a closed matrix, whose states are the states of the matrix that meet the guard
  pub guarded_after : {m' : Matrix (Upper ℤ)} → guarded w i j e m ≡ kept m'
      → Closed w m' × ((D : ℕ) (x : ℕ → ℤ) → State D x → (Meets w m' D x ↔ (Meets w m D x × Keeps D (x i -ℤ x j) e)))
  guarded_after h = subst (After w m (λ D x. Keeps D (x i -ℤ x j) e)) h guarded_right

-- ---- nothing asked: the matrix itself
pub after_none : {w : ℕ} {m : Matrix (Upper ℤ)} → Closed w m → After w m (λ D x. Unit {0}) (kept m)
after_none c = (c, λ D x s. (λ h. (h, tt), λ h. h.0))

-- ---- padding: a guard leaves what lies past w
by_padding : (w i j : ℕ) (e : Upper ℤ) (m : Matrix (Upper ℤ)) (k l : ℕ) → Outside w k l → (t u : Bool) {m' : Matrix (Upper ℤ)}
    → cond t void (kept (cond u (limited_m w i j e m) m)) ≡ kept m' → m' k l ≡ m k l
by_padding w i j e m k l h true u g = apart cc
by_padding w i j e m k l h false true {m'} g = let f : limited_m w i j e m ≡ m' = cc in rw (← f) (limited_outside w i j e m k l h)
by_padding w i j e m k l h false false {m'} g = let f : m ≡ m' = cc in rw (← f) refl

pub guarded_outside : (w i j : ℕ) (e : Upper ℤ) (m : Matrix (Upper ℤ)) {m' : Matrix (Upper ℤ)} → guarded w i j e m ≡ kept m' → (k l : ℕ)
    → Outside w k l → m' k l ≡ m k l
unfolding guarded
guarded_outside w i j e m g k l h = by_padding w i j e m k l h (tighter_w (sum_w e (m j i)) zero_w) (tighter_w e (m i j)) g
