-- The cases of the code's steps on tables, with the branches' tests.
use mathlib.Core.Path.{◌≡◌, refl, sym, ◌∙◌, ap}
use mathlib.Core.Bool.{Bool, true, false}
use Prim.Native.Nat.{ℕ, ◌≤◌, ◌<◌}
use borrow.Author.Tests.{lt-ltb, le-ltb}
use Rattle.weight.specs.declared.Weight.{Weight}
use Rattle.weight_matrix.specs.Tables.{Table, void_table, entry_of, is_void, sum_c, tighter_c, limited_entry, limited_table}
use Rattle.weight_matrix.specs.Tables.{guarded_table}
use Rattle.weight.specs.Records.{zero_weight}

module _ (past : Bool) (was s add via : Weight) (t : Bool) (h : past ≡ false) (ev : via ≡ sum_c s add) (et : t ≡ tighter_c via was) where
  pub entry_via : t ≡ true → via ≡ limited_entry past was s add
  unfolding limited_entry
  entry_via ht =
      let k : tighter_c (sum_c s add) was ≡ true = sym (ap (λ (x : Weight). tighter_c x was) ev) ∙ sym et ∙ ht in
      rw (h, k) ev

  pub entry_was : t ≡ false → was ≡ limited_entry past was s add
  unfolding limited_entry
  entry_was ht =
      let k : tighter_c (sum_c s add) was ≡ false = sym (ap (λ (x : Weight). tighter_c x was) ev) ∙ sym et ∙ ht in
      rw (h, k) refl

-- ---- the rules for a guard
module _ (m : Table) (clocks i j : ℕ) (e : Weight) where
  pub guard_past_i : 4 < i → m ≡ guarded_table m clocks i j e
  unfolding guarded_table
  guard_past_i h = rw (lt-ltb 4 i h) refl

  pub guard_past_j : i ≤ 4 → 4 < j → m ≡ guarded_table m clocks i j e
  unfolding guarded_table
  guard_past_j h k = rw (le-ltb 4 i h, lt-ltb 4 j k) refl

  module _ (hi : i ≤ 4) (hj : j ≤ 4) (v : Bool) (ev : v ≡ is_void m) where
    pub guard_void : v ≡ true → m ≡ guarded_table m clocks i j e
    unfolding guarded_table
    guard_void h = rw (le-ltb 4 i hi, le-ltb 4 j hj, sym ev ∙ h) refl

    module _ (hv : v ≡ false) (s : Weight) (t : Bool) (es : s ≡ sum_c e (entry_of m j i)) (et : t ≡ tighter_c s zero_weight) where
      cut : (b : Bool) → t ≡ b → tighter_c (sum_c e (entry_of m j i)) zero_weight ≡ b
      cut b h = sym (ap (λ (x : Weight). tighter_c x zero_weight) es) ∙ sym et ∙ h

      pub guard_cut : t ≡ true → void_table ≡ guarded_table m clocks i j e
      unfolding guarded_table
      guard_cut h = rw (le-ltb 4 i hi, le-ltb 4 j hj, sym ev ∙ hv, cut true h) refl

      module _ (ht : t ≡ false) (u : Bool) (eu : u ≡ tighter_c e (entry_of m i j)) where
        pub guard_limited : u ≡ true → limited_table m clocks i j e ≡ guarded_table m clocks i j e
        unfolding guarded_table
        guard_limited h = rw (le-ltb 4 i hi, le-ltb 4 j hj, sym ev ∙ hv, cut false ht, sym eu ∙ h) refl

        pub guard_stays : u ≡ false → m ≡ guarded_table m clocks i j e
        unfolding guarded_table
        guard_stays h = rw (le-ltb 4 i hi, le-ltb 4 j hj, sym ev ∙ hv, cut false ht, sym eu ∙ h) refl
