-- A guard i - j with weight e on a closed matrix, at one valuation: which instants lie on a shortest path before and after it.
use Rattle.std.specs.Prelude.{◌≡◌, ℕ, ◌≤◌, ℤ}
use Rattle.std.proofs.Common.{sym, ap, ◌∙◌}
use Rattle.dbm.specs.Guard.{way}
use Rattle.dbm.proofs.Guard.{limited_way, limited_old}
use Rattle.dbm.specs.Matrix.{Matrix, limited_m, ◌⊑◌, Closed}
use Rattle.dbm.specs.Weights.{⊑_refl, ⊑-≡, ⊑_trans, sum_mono, sum_assoc, sum_comm, sum_zero}
use Rattle.weight.specs.Upper.{Upper, sum_w, zero_w}

-- ---- sums that a proof regroups
to_end : (a b c d e : Upper ℤ) → sum_w (sum_w a (sum_w e (sum_w b c))) d ≡ sum_w (sum_w (sum_w a c) e) (sum_w b d)
to_end a b c d e =
    ap (λ (x : Upper ℤ). sum_w (sum_w a x) d) (sym (sum_assoc e b c) ∙ sum_comm (sum_w e b) c)
    ∙ sum_assoc a (sum_w c (sum_w e b)) d
    ∙ ap (sum_w a) (sum_assoc c (sum_w e b) d ∙ ap (sum_w c) (sum_assoc e b d))
    ∙ sym (sum_assoc a c (sum_w e (sum_w b d)))
    ∙ sym (sum_assoc (sum_w a c) e (sum_w b d))

to_front : (a b e d : Upper ℤ) → sum_w a (sum_w (sum_w b e) d) ≡ sum_w (sum_w (sum_w a b) e) d
to_front a b e d = sym (sum_assoc a (sum_w b e) d) ∙ ap (λ (x : Upper ℤ). sum_w x d) (sym (sum_assoc a b e))

-- ---- an instant y on a shortest path from k to i, or from j to l
module _ {n i j : ℕ} {m : Matrix (Upper ℤ)} (c : Closed n m) (hi : i ≤ n) (hj : j ≤ n) (e : Upper ℤ) (k l y : ℕ) (hk : k ≤ n)
    (hl : l ≤ n) (hy : y ≤ n) where
  -- one that lies on both makes the way by the guard no tighter than the entry
  pub both_no_tighter : zero_w ⊑ sum_w e (m j i) → sum_w (m k y) (m y i) ⊑ m k i → sum_w (m j y) (m y l) ⊑ m j l → m k l ⊑ way i j e m k l
  both_no_tighter open_loop a b =
      let around : zero_w ⊑ sum_w e (sum_w (m j y) (m y i)) =
      ⊑_trans open_loop (sum_mono (⊑_refl e) (c.triangle j y i hj hy hi)) in
      ⊑_trans (c.triangle k y l hk hy hl)
      (⊑_trans (sum_mono (⊑_trans (⊑-≡ (sym (sum_zero (m k y)))) (sum_mono (⊑_refl (m k y)) around)) (⊑_refl (m y l)))
      (⊑_trans (⊑-≡ (to_end (m k y) (m j y) (m y i) (m y l) e)) (sum_mono (sum_mono a (⊑_refl e)) b)))

  abbrev new : Matrix (Upper ℤ)
  new = limited_m n i j e m

  -- after the guard, the way by it passes the instants of both
  pub left_through : sum_w (m k y) (m y i) ⊑ m k i → sum_w (new k y) (new y l) ⊑ way i j e m k l
  left_through a =
      ⊑_trans (sum_mono (limited_old n i j e m k y hk hy) (limited_way n i j e m y l hy hl))
      (⊑_trans (⊑-≡ (to_front (m k y) (m y i) e (m j l))) (sum_mono (sum_mono a (⊑_refl e)) (⊑_refl (m j l))))

  pub right_through : sum_w (m j y) (m y l) ⊑ m j l → sum_w (new k y) (new y l) ⊑ way i j e m k l
  right_through b =
      ⊑_trans (sum_mono (limited_way n i j e m k y hk hy) (limited_old n i j e m y l hy hl))
      (⊑_trans (⊑-≡ (sum_assoc (sum_w (m k i) e) (m j y) (m y l))) (sum_mono (⊑_refl (sum_w (m k i) e)) b))

  -- and an entry that stays passes the instants that it passed
  pub old_through : sum_w (m k y) (m y l) ⊑ m k l → sum_w (new k y) (new y l) ⊑ m k l
  old_through a = ⊑_trans (sum_mono (limited_old n i j e m k y hk hy) (limited_old n i j e m y l hy hl)) a
