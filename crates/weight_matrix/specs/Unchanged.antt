-- A matrix that a guard does not change, by three of its entries. An index past 4 stands for 4, where a guard changes nothing anyway.
use Rattle.std.specs.Prelude.{◌≡◌, Bool, cond, ltb}
use Rattle.std.proofs.Math.Path.{refl}
use Rattle.std.proofs.Math.Bool.{true, false}
use Prim.Native.Nat.{ℕ, min}
use native.Mathlib.Omega.{arith}
use borrow.Author.Tests.{ltb-false}
use Rattle.integer.specs.Apart.{apart}
use Rattle.weight.specs.Records.{zero_weight}
use Rattle.weight.specs.declared.Weight.{Weight}
use Rattle.weight_matrix.specs.Tables.{Table, void_table, entry_of, sum_c, tighter_c, limited_table, guarded_table, guard_changes}

by_tests :
    (m cut limited : Table) (o t u : Bool) → cond o false (cond t true u) ≡ false → cond o m (cond t cut (cond u limited m)) ≡ m
by_tests m cut limited true t u h = refl
by_tests m cut limited false true u h = apart cc
by_tests m cut limited false false true h = apart cc
by_tests m cut limited false false false h = refl

module _ (m : Table) (clocks i j : ℕ) (e : Weight) where
  by_places :
      (a b : Bool) → ltb 4 i ≡ a → ltb 4 j ≡ b →
      guard_changes (entry_of m 0 0) (entry_of m (min j 4) (min i 4)) (entry_of m (min i 4) (min j 4)) e ≡ false →
      guarded_table m clocks i j e ≡ m
  unfolding guarded_table guard_changes
  by_places true b p q h = rw p refl
  by_places false true p q h = rw (p, q) refl
  by_places false false p q h =
      let li = ltb-false 4 i p in
      let lj = ltb-false 4 j q in
      let ei : min i 4 ≡ i = omega arith in
      let ej : min j 4 ≡ j = omega arith in
      let g = rw (ei, ej) at h in
      rw (p, q)
      (by_tests m void_table (limited_table m clocks i j e) (entry_of m 0 0).strict (tighter_c (sum_c e (entry_of m j i)) zero_weight)
      (tighter_c e (entry_of m i j)) g)

  pub unchanged :
      guard_changes (entry_of m 0 0) (entry_of m (min j 4) (min i 4)) (entry_of m (min i 4) (min j 4)) e ≡ false →
      guarded_table m clocks i j e ≡ m
  unchanged h = by_places (ltb 4 i) (ltb 4 j) refl refl h
