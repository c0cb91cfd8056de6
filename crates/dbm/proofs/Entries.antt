-- What a delay leaves at an entry past w, and what a reset leaves at one inside.
use Rattle.std.specs.Prelude.{◌≡◌, ltb}
use Rattle.std.proofs.Math.Path.{refl}
use Rattle.std.proofs.Common.{sym, subst, ap, ◌∙◌, inl, inr, arith}
use Rattle.std.proofs.Math.Bool.{true}
use Prim.Native.Nat.{ℕ, zero, suc, ◌≤◌}
use Rattle.std.proofs.Math.Dec.{T, eqb, eqb→eq}
use Rattle.dbm.specs.Matrix.{Outside, Matrix, delayed, reset_m}
use Rattle.dbm.specs.Entries.{leb_no, and_false, delayed_stays, source, inside_yes, at_source}

module _ {A : Type 0} (w : ℕ) (nothing : A) (m : Matrix A) where
  pub delayed_outside : (i j : ℕ) → Outside w i j → delayed w nothing m i j ≡ m i j
  unfolding delayed
  delayed_outside i j (inl h) = rw (leb_no i w h, and_false (ltb 0 i)) refl
  delayed_outside i zero (inr h) = absurd (omega arith)
  delayed_outside i (suc j) (inr h) = delayed_stays w nothing m i j

module _ {A : Type 0} (w r : ℕ) (m : Matrix A) where
  pub reset_inside : (i j : ℕ) → i ≤ w → j ≤ w → (i ≡ r → m r r ≡ m 0 0) → reset_m w r m i j ≡ m (source r i) (source r j)
  unfolding reset_m
  reset_inside i j hi hj h = rw (inside_yes w i j hi hj) (at_source w r m i j (eqb i r) (eqb j r) (λ a b. same (is_r i a) (is_r j b)))
    where
      is_r : (k : ℕ) → eqb k r ≡ true → k ≡ r
      is_r k e = eqb→eq k r (subst T (sym e) tt)

      same : i ≡ r → j ≡ r → m i j ≡ m 0 0
      same a b = ap (λ (k : ℕ). m k j) a ∙ ap (m r) b ∙ h a
