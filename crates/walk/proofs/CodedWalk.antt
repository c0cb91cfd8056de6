-- What the code does step by step (Tables) is Sweep of Walk, for every accepted sheet and all parameters from -1,000 to 1,000:
-- `sweep_coded`.
use Rattle.std.specs.Prelude.{◌≡◌, ℕ, suc, ◌+◌, ◌≤◌, ◌<◌, ℤ}
use Rattle.std.proofs.Math.Path.{refl, sym, ap}
use Rattle.std.proofs.Common.{◌∙◌, arith}
use mathlib.Core.List.{List, [], ◌∷◌, ◌++◌, map}
use Rattle.dbm.specs.Matrix.{Matrix, start, Outcome, void, kept}
use Rattle.weight.specs.Upper.{Upper}
use Rattle.expr.specs.Bounds.{at_v}
use Rattle.weight.specs.Records.{weight_of}
use Rattle.expr.specs.Records.{bound_as}
use Rattle.guards.specs.declared.Guard.{Guard}
use Rattle.sheet.specs.declared.Sheet.{Sheet}
use Rattle.automaton.specs.declared.Transition.{Transition}
use Rattle.sheet.specs.WellFormed.{WellFormed}
use Rattle.timed.specs.Automaton.{invariants, guards_of, transition_at, route_of}
use Rattle.sheet.specs.Lookup.{location_c, transition_c}
use Rattle.timed.specs.Indexed.{location_in_lem, transition_in_lem}
use Rattle.timed.specs.Lists.{AllOf}
use Rattle.timed.specs.Right.{StepRight, filled_all}
use Rattle.timed.proofs.Right.{steps_right, route_delays}
use Rattle.timed.specs.Steps.{Step, delay, guard, resets, arrival_steps, stay_steps, move_steps, steps_from, steps_of, delays}
use Rattle.timed.specs.Visits.{after, after_delays}
use Rattle.weight_matrix.specs.Tables.{Table, start_table, void_table, delayed_table, resets_table}
use Rattle.walk.specs.Walked.{guard_table, guards_table, invariants_table, stay_table, move_table, walk_table, started_table}
use Rattle.walk.specs.Walked.{sweep_table}
use Rattle.concrete.specs.Walk.{and_then, step, walk, sweep_along, sweep_at}
use Rattle.concrete.specs.Sizes.{Thousands, Visited, guard_size, start_visited, step_visited, visited_within}
use Rattle.weight_matrix.specs.Records.{row}
use Rattle.walk.specs.Coded.{table, coded}
use Rattle.walk.specs.CodedSteps.{delayed_coded, delayed_void, guarded_coded, guarded_void, resets_coded, resets_void}

-- ---- the code's steps on tables, as one function, and in order
unfoldable pub step_table : ℕ → List ℤ → Step → Table → Table
step_table w v delay m = delayed_table m w
step_table w v (guard visit g) m = guard_table m w v g
step_table w v (resets bits) m = resets_table m w bits

unfoldable pub steps_table : ℕ → List ℤ → List Step → Table → Table
steps_table w v [] m = m
steps_table w v (s ∷ steps) m = steps_table w v steps (step_table w v s m)

-- ---- void stays, and a kept matrix takes the step
step_void : (w : ℕ) (v : List ℤ) (s : Step) → step_table w v s void_table ≡ void_table
unfolding step_table guard_table
step_void w v delay = delayed_void w
step_void w v (guard visit g) = guarded_void w g.left g.right (weight_of (at_v v (bound_as g.bound)))
step_void w v (resets bits) = resets_void w bits

steps_void : (w : ℕ) (v : List ℤ) (steps : List Step) → steps_table w v steps void_table ≡ void_table
unfolding steps_table
steps_void w v [] = refl
steps_void w v (s ∷ steps) = ap (steps_table w v steps) (step_void w v s) ∙ steps_void w v steps

then_coded : (f : Table → Table) (g : Matrix (Upper ℤ) → Outcome) → f void_table ≡ void_table → (o : Outcome)
    → ((m : Matrix (Upper ℤ)) → o ≡ kept m → f (table m) ≡ coded (g m)) → f (coded o) ≡ coded (and_then o g)
unfolding coded
then_coded f g z void h = z
then_coded f g z (kept m) h = h m refl

module _ (parameters : ℕ) {w : ℕ} (four : w ≤ 4) (v : List ℤ) (h : Thousands v) where
  step_coded : (s : Step) → StepRight parameters w s → (k : ℕ) → k ≤ 33 → (m : Matrix (Upper ℤ)) → Visited w k m
      → step_table w v s (table m) ≡ coded (step w v s m)
  unfolding step_table guard_table step coded
  step_coded delay r k few m a = delayed_coded w m (a.closed.diagonal 0 (omega arith))
  step_coded (guard visit g) r k few m a =
      guarded_coded four r.left r.right (visited_within k few a) (guard_size v r h) (a.closed.diagonal 0 (omega arith))
  step_coded (resets bits) r k few m a = resets_coded w bits m four (a.closed.diagonal 0 (omega arith))

  -- any right steps, with at most 33 delays
  pub steps_coded : (steps : List Step) → AllOf (StepRight parameters w) steps → (k : ℕ) → k + delays steps ≤ 33
      → (m : Matrix (Upper ℤ)) → Visited w k m → steps_table w v steps (table m) ≡ coded (walk w v steps m)
  unfolding steps_table walk coded
  steps_coded [] r k few m a = refl
  steps_coded (s ∷ steps) r k few m a =
      let next = after_delays k s steps in
      ap (steps_table w v steps) (step_coded s r.0 k (omega arith) m a)
      ∙ then_coded (steps_table w v steps) (walk w v steps) (steps_void w v steps) (step w v s m)
      (λ b e. steps_coded steps r.1 (after k s) (omega arith) b (step_visited parameters v h s r.0 k a e))

-- ---- the code's walk makes the steps along the route
steps_append : (w : ℕ) (v : List ℤ) (xs ys : List Step) (m : Table) → steps_table w v (xs ++ ys) m ≡ steps_table w v ys (steps_table w v xs m)
unfolding steps_table
steps_append w v [] ys m = refl
steps_append w v (s ∷ xs) ys m = steps_append w v xs ys (step_table w v s m)

guards_are : (w : ℕ) (v : List ℤ) (visit : ℕ) (gs : List Guard) (m : Table) → guards_table m w v gs ≡ steps_table w v (map (guard visit) gs) m
unfolding guards_table steps_table step_table
guards_are w v visit [] m = refl
guards_are w v visit (g ∷ gs) m = guards_are w v visit gs (guard_table m w v g)

module _ {s : Sheet} (f : WellFormed s) (v : List ℤ) where
  abbrev goes : List Step → Table → Table
  goes steps m = steps_table s.clocks v steps m

  arrival_is : (visit l : ℕ) → l < s.locations → (m : Table)
      → invariants_table m s.clocks v (location_c s l) ≡ goes (arrival_steps s visit l) m
  unfolding arrival_steps invariants
  arrival_is visit l hl m = rw (location_in_lem s l (omega (arith, f.location.few))) (guards_are s.clocks v visit (invariants s l) m)

  stay_is : (visit l : ℕ) → l < s.locations → (m : Table) → stay_table m s.clocks v (location_c s l) ≡ goes (stay_steps s visit l) m
  unfolding stay_table stay_steps arrival_steps steps_table step_table
  stay_is visit l hl m = arrival_is visit l hl (delayed_table m s.clocks)

  -- the code's transition, and where it goes
  abbrev moves : ℕ → Table → Table
  moves n m = move_table m s.clocks v (transition_c s n) (location_c s (transition_c s n).to)

  move_is : (visit n : ℕ) → n < s.transitions → (m : Table) → moves n m ≡ goes (move_steps s visit n) m
  unfolding move_table move_steps steps_table step_table guards_of
  move_is visit n hn m =
      let w = s.clocks in
      let to = (transition_at s n).to in
      let bits = (transition_at s n).resets in
      rw (transition_in_lem s n (omega (arith, f.transition.few)))
      (ap (λ (t : Table). invariants_table (resets_table t w bits) w v (location_c s to)) (guards_are w v visit (guards_of s n) m)
      ∙ arrival_is (suc visit) to (f.transition.each n hn).to (resets_table (goes (map (guard visit) (guards_of s n)) m) w bits)
      ∙ sym (steps_append w v (map (guard visit) (guards_of s n)) (resets bits ∷ arrival_steps s (suc visit) to) m))

  walk_is : (ns : List ℕ) → AllOf (λ n. n < s.transitions) ns → (visit l : ℕ) → l < s.locations → (m : Table)
      → walk_table s v l ns m ≡ goes (steps_from s visit l ns) m
  unfolding walk_table steps_from
  walk_is [] r visit l hl m = stay_is visit l hl m
  walk_is (n ∷ ns) (hn, r) visit l hl m =
      let w = s.clocks in
      let to = (transition_at s n).to in
      let rest = steps_from s (suc visit) to ns in
      let stayed = goes (stay_steps s visit l) m in
      ap (λ (k : ℕ). walk_table s v k ns (moves n (stay_table m w v (location_c s l))))
      (ap (λ (t : Transition). t.to) (transition_in_lem s n (omega (arith, f.transition.few))))
      ∙ ap (λ (t : Table). walk_table s v to ns (moves n t)) (stay_is visit l hl m)
      ∙ ap (walk_table s v to ns) (move_is visit n hn stayed)
      ∙ walk_is ns r (suc visit) to (f.transition.each n hn).to (goes (move_steps s visit n) stayed)
      ∙ sym (steps_append w v (move_steps s visit n) rest stayed)
      ∙ sym (steps_append w v (stay_steps s visit l) (move_steps s visit n ++ rest) m)

  -- the whole route
  route_is : sweep_table s v ≡ goes (steps_of s (route_of s)) start_table
  unfolding sweep_table started_table steps_of route_of
  route_is =
      let some = f.some_location in
      walk_is (route_of s) (filled_all f.route) 0 0 (omega arith) (started_table s v)
      ∙ ap (goes (steps_from s 0 0 (route_of s))) (arrival_is 0 0 (omega arith) start_table)
      ∙ sym (steps_append s.clocks v (arrival_steps s 0 0) (steps_from s 0 0 (route_of s)) start_table)

start_table_lem : table start ≡ start_table
unfolding table row start
start_table_lem = refl

-- the code's table of the whole route is that of Sweep's outcome
pub sweep_coded : (s : Sheet) → WellFormed s → (v : List ℤ) → Thousands v → sweep_table s v ≡ coded (sweep_at s v)
unfolding sweep_at sweep_along
sweep_coded s f v h =
    route_is f v
    ∙ ap (steps_table s.clocks v (steps_of s (route_of s))) (sym start_table_lem)
    ∙ steps_coded s.parameters f.clocks v h (steps_of s (route_of s)) (steps_right f (route_of s)) 0
    (omega (arith, route_delays f)) start (start_visited s.clocks)
