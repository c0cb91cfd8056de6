-- The loop over inequalities at a valuation: it meets those from k on exactly if it meets all.
use mathlib.Core.Path.{◌≡◌, refl, sym, ◌∙◌}
use mathlib.Core.Bool.{Bool, true, false, ◌&&◌}
use mathlib.Core.List.{List}
use Prim.Native.Nat.{ℕ, suc, ◌+◌, ◌-◌, ◌≤◌, ◌<◌}
use native.Mathlib.Numerals.{add-one}
use native.Mathlib.Omega.{arith}
use lib.IntN.{ℤ, pos}
use lib.Signed.{le_z, ◌≤ℤ◌, ◌<ℤ◌}
use Rattle.integer.specs.Order.{true_le_z, false_le_z}
use Rattle.expr.specs.Affine.{value}
use Rattle.inequalities.specs.Flat.{expr_at, exprs_from}
use Rattle.valuations.specs.Valuations.{satisfies}

left : (n i : ℕ) → i < n → n - i ≡ suc (n - (i + 1))
left n i h = omega arith

module _ (l : List ℤ) (n k : ℕ) (v : List ℤ) (x : ℤ) (w : Bool) where
  meet_turn : k < n
      → satisfies (exprs_from l k (n - k)) v ≡ (le_z (pos 0) (value (expr_at l k) v) && satisfies (exprs_from l (k + 1) (n - (k + 1))) v)
  unfolding satisfies exprs_from
  meet_turn h = rw (left n k h, add-one) refl

  pub meet_stop : k < n → x ≡ value (expr_at l k) v → x <ℤ pos 0 → satisfies (exprs_from l k (n - k)) v ≡ w → false ≡ w
  meet_stop h e g q =
      let f : le_z (pos 0) (value (expr_at l k) v) ≡ false = false_le_z (rw e at g) in
      let t : satisfies (exprs_from l k (n - k)) v ≡ false = rw (meet_turn h, f) refl in
      sym t ∙ q

  pub meet_next : k < n → x ≡ value (expr_at l k) v → pos 0 ≤ℤ x → satisfies (exprs_from l k (n - k)) v ≡ w
      → satisfies (exprs_from l (k + 1) (n - (k + 1))) v ≡ w
  meet_next h e g q =
      let f : le_z (pos 0) (value (expr_at l k) v) ≡ true = true_le_z (rw e at g) in
      let t : satisfies (exprs_from l k (n - k)) v ≡ satisfies (exprs_from l (k + 1) (n - (k + 1))) v = rw (meet_turn h, f) refl in
      sym t ∙ q

  pub meet_done : n ≤ k → satisfies (exprs_from l k (n - k)) v ≡ w → true ≡ w
  unfolding satisfies exprs_from
  meet_done h q =
      let e : n - k ≡ 0 = omega arith in
      let t : satisfies (exprs_from l k (n - k)) v ≡ true = rw e refl in
      sym t ∙ q
