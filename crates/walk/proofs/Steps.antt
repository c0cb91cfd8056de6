-- The cases of the code's steps on tables, with the branches' tests.
use mathlib.Core.Path.{◌≡◌, refl, sym, ◌∙◌, ap}
use mathlib.Core.List.{List, ◌∷◌}
use mathlib.Core.Bool.{Bool, false}
use Prim.Native.Nat.{ℕ, suc, ◌+◌, ◌≤◌, ◌<◌, min}
use native.Mathlib.Numerals.{add-one}
use native.Mathlib.Omega.{arith}
use lib.IntN.{ℤ}
use lib.ListN.{length, get_or, take, drop, length-take, drop_of_length-le}
use lib.Seq.{drop-cons, get_or-take}
use Rattle.guards.specs.declared.Guard.{Guard}
use Rattle.automaton.specs.declared.Location.{Location}
use Rattle.sheet.specs.declared.Sheet.{Sheet}
use Rattle.automaton.specs.declared.Transition.{Transition}
use Rattle.weight.specs.Records.{weight_of}
use Rattle.weight.specs.declared.Weight.{Weight}
use Rattle.expr.specs.Bounds.{at_v}
use Rattle.expr.specs.Records.{bound_as}
use Rattle.weight_matrix.specs.Tables.{Table, start_table, entry_of, guarded_table, guard_changes}
use Rattle.weight_matrix.specs.Unchanged.{unchanged}
use Rattle.walk.specs.Walked.{guard_table, guards_table, invariants_table, stay_table, move_table, started_table}
use Rattle.walk.specs.Walked.{walk_table, sweep_table}
use Rattle.sheet.specs.Lookup.{location_c, transition_c}

-- ---- one guard
module _ (m : Table) (clocks : ℕ) (v : List ℤ) (g : Guard) (e : Weight) (ee : e ≡ weight_of (at_v v (bound_as g.bound))) where
  -- it is put in
  pub guard_made : (next : Table) → next ≡ guarded_table m clocks g.left g.right e → next ≡ guard_table m clocks v g
  unfolding guard_table
  guard_made next h = h ∙ ap (guarded_table m clocks g.left g.right) ee

  -- it changes nothing
  pub guard_kept : (i j : ℕ) (b : Bool) → i ≡ min g.left 4 → j ≡ min g.right 4
      → b ≡ guard_changes (entry_of m 0 0) (entry_of m j i) (entry_of m i j) e → b ≡ false → m ≡ guard_table m clocks v g
  unfolding guard_table
  guard_kept i j b ei ej eb h =
      let f : guard_changes (entry_of m 0 0) (entry_of m (min g.right 4) (min g.left 4))
      (entry_of m (min g.left 4) (min g.right 4)) e ≡ false = rw (sym ei, sym ej) (sym eb ∙ h) in
      sym (unchanged m clocks g.left g.right e f) ∙ ap (guarded_table m clocks g.left g.right) ee

-- ---- the loop over guards: what is left of the list takes the matrix to where the whole list takes it
pub size_is : {A : Type 0} (n k most : ℕ) (xs : List A) → n ≡ min k most → length xs ≡ most → (n ≤ most) × (n ≡ length (take k xs))
size_is n k most xs e l = (omega arith, rw (length-take k xs, l) e)

module _ (clocks : ℕ) (v : List ℤ) (xs : List Guard) (k : ℕ) where
  guards_cons : (l : List Guard) (g : Guard) (rest : List Guard) (m : Table) → l ≡ g ∷ rest → guards_table m clocks v l
      ≡ guards_table (guard_table m clocks v g) clocks v rest
  unfolding guards_table
  guards_cons l g rest m h = rw h refl

  pub guards_turn : (i : ℕ) (m n w : Table) (d : Guard) → i < length (take k xs) → guards_table m clocks v (drop i (take k xs)) ≡ w
      → n ≡ guard_table m clocks v (get_or xs i d) → guards_table n clocks v (drop (i + 1) (take k xs)) ≡ w
  guards_turn i m n w d h e f =
      let b : i < k = omega (arith, length-take k xs) in
      rw (add-one i, f, ← get_or-take k xs i d b)
      (sym (guards_cons (drop i (take k xs)) (get_or (take k xs) i d) (drop (suc i) (take k xs)) m (drop-cons (take k xs) i d h)) ∙ e)

  pub guards_done : (i : ℕ) (m w : Table) → length (take k xs) ≤ i → guards_table m clocks v (drop i (take k xs)) ≡ w → m ≡ w
  unfolding guards_table
  guards_done i m w h e = rw (drop_of_length-le (take k xs) h) at e

-- ---- the loop over the route: what is left of it takes the matrix to where the whole route takes it
module _ (s : Sheet) (v : List ℤ) where
  pub walk_begun : (here : Location) (m : Table) → here ≡ location_c s 0 → m ≡ invariants_table start_table s.clocks v here
      → walk_table s v 0 (take s.moves s.route) m ≡ sweep_table s v
  unfolding sweep_table started_table
  walk_begun here m e f = rw (f, e) refl

  walk_cons : (ns : List ℕ) (n : ℕ) (rest : List ℕ) (l : ℕ) (m : Table) → ns ≡ n ∷ rest
      → walk_table s v l ns m ≡ walk_table s v (transition_c s n).to rest
      (move_table (stay_table m s.clocks v (location_c s l)) s.clocks v (transition_c s n) (location_c s (transition_c s n).to))
  unfolding walk_table
  walk_cons ns n rest l m h = rw h refl

  pub walk_turn : (k l : ℕ) (m stayed next w : Table) (here there : Location) (t : Transition) → k < length (take s.moves s.route)
      → walk_table s v l (drop k (take s.moves s.route)) m ≡ w → t ≡ transition_c s (get_or s.route k 0) → here ≡ location_c s l
      → there ≡ location_c s t.to → stayed ≡ stay_table m s.clocks v here → next ≡ move_table stayed s.clocks v t there
      → walk_table s v t.to (drop (k + 1) (take s.moves s.route)) next ≡ w
  walk_turn k l m stayed next w here there t h e et eh eg es en =
      let b : k < s.moves = omega (arith, length-take s.moves s.route) in
      rw (add-one k, en, es, eg, eh, et, ← get_or-take s.moves s.route k 0 b)
      (sym (walk_cons (drop k (take s.moves s.route)) (get_or (take s.moves s.route) k 0)
      (drop (suc k) (take s.moves s.route)) l m
      (drop-cons (take s.moves s.route) k 0 h)) ∙ e)

  pub walk_done : (k l : ℕ) (m r w : Table) (here : Location) → length (take s.moves s.route) ≤ k
      → walk_table s v l (drop k (take s.moves s.route)) m ≡ w → here ≡ location_c s l → r ≡ stay_table m s.clocks v here → r ≡ w
  unfolding walk_table
  walk_done k l m r w here h e eh er =
      let f : stay_table m s.clocks v (location_c s l) ≡ w = rw (drop_of_length-le (take s.moves s.route) h) at e in
      er ∙ ap (λ (p : Location). stay_table m s.clocks v p) eh ∙ f
