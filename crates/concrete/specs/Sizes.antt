-- How large the numbers of Sweep's matrices grow, where every parameter lies from -1,000 to 1,000: a guard's number is at most 4,001,000
-- in size, and after any steps with at most 33 delays every number stays within 2 ^ 57.
use Rattle.std.specs.Prelude.{◌≡◌, refl, ◌⊎◌, Bool, true, false, cond, ℕ, zero, suc, ◌+◌, ◌*◌, ◌/◌, ◌%◌, ◌^◌, ◌≤◌, ◌<◌, eqb, ℤ, pos, nat_abs, ◌*ℤ◌, length}
use Rattle.std.proofs.Common.{ap, inl, inr, arith}
use Rattle.std.proofs.Math.Path.{subst}
use mathlib.Core.List.{List, [], ◌∷◌}
use Rattle.integer.specs.Parts.{p, n, pos_parts, nat_abs_parts}
use Rattle.integer.specs.Product.{size_in, sum_size, product_size}
use Rattle.dbm.specs.Matrix.{Matrix, start, delayed, reset_m, resets_m, guarded, Outcome, void, kept}
use Rattle.dbm.specs.State.{start_closed}
use Rattle.dbm.specs.Size.{AtMost, Small, Visit, at_most_more, at_most_sum, small_visit, visit_small}
use Rattle.dbm.proofs.Size.{delayed_visit, guarded_visit}
use Rattle.dbm.proofs.Size.{reset_visit}
use Rattle.expr.specs.Affine.{dot, value}
use Rattle.weight.specs.Upper.{Upper, none, upper, zero_w, sum_w, tighter_w, MOST, saturated}
use Rattle.expr.specs.Bounds.{at_v}
use Rattle.weight.specs.Laws.{saturate_small}
use Rattle.expr.specs.Records.{PARAMETERS, four, affine, bound_as}
use Rattle.expr.specs.declared.number.Expr.{Expr}
use Rattle.guards.specs.declared.Guard.{Guard}
use Rattle.sheet.specs.declared.Sheet.{Sheet}
use Rattle.cursor_laws.specs.Right.{Small as Thousand}
use Rattle.guards.specs.Right.{ExprRight, GuardRight}
use Rattle.sheet.specs.WellFormed.{WellFormed}
use Rattle.timed.specs.Automaton.{route_of}
use Rattle.timed.specs.Lists.{AllOf}
use Rattle.timed.specs.Right.{StepRight, filled_at, places_all}
use Rattle.timed.proofs.Right.{steps_right, route_delays}
use Rattle.timed.specs.Steps.{Step, delay, guard, resets, steps_of, delays}
use Rattle.timed.specs.Visits.{after, after_delays, none_more}
use Rattle.concrete.specs.Walk.{and_then, step, walk, sweep_along, sweep_at}

-- every parameter lies from -1,000 to 1,000
abbrev pub Thousands : List ℤ → Type 0
Thousands = AllOf Thousand

-- ---- a guard's number
thousand_size : {x : ℤ} → Thousand x → p x + n x ≤ 1000
thousand_size h = size_in h.least h.most

dot_size : (cs v : List ℤ) → Thousands cs → Thousands v → p (dot cs v) + n (dot cs v) ≤ length cs * 1000000
unfolding dot
dot_size [] v h k = omega (arith, pos_parts 0)
dot_size (c ∷ cs) [] h k = omega (arith, pos_parts 0)
dot_size (c ∷ cs) (x ∷ v) h k =
    omega (
      arith,
      sum_size (c *ℤ x) (dot cs v) (product_size c x (thousand_size h.0) (thousand_size k.0))
          (dot_size cs v h.1 k.1),
    )

value_size : {parameters : ℕ} (e : Expr) (v : List ℤ) → ExprRight parameters e → Thousands v → nat_abs (value (affine e) v) ≤ 4001000
unfolding value
value_size e v r h =
    let cs = four e.coefs in
    let zero_small : Thousand (pos 0) = record { least = record { le = tt }; most = record { le = tt } } in
    let small = places_all Thousand (pos 0) e.coefs 0 PARAMETERS (filled_at r.coefs Thousand (λ c k. k) zero_small zero_small) in
    let d = dot_size cs v small h in
    rw nat_abs_parts (sum_size e.constant (dot cs v) (thousand_size r.constant) d)

-- a guard's number is at most 4,001,000 in size
pub guard_size : {parameters w : ℕ} {g : Guard} (v : List ℤ) → GuardRight parameters w g → Thousands v
    → AtMost 4001000 (at_v v (bound_as g.bound))
unfolding at_v
guard_size {parameters} {w} {g} v r h = by g.bound.none
  where
    by : (b : Bool) → AtMost 4001000 (at_v v (cond b none (upper g.bound.strict (affine g.bound.expr))))
    by true = record { size = tt }
    by false = record { size = value_size g.bound.expr v r.expr h }

-- ---- from delay to delay
-- how large numbers are after k delays, but for what guards add after the last
unfoldable pub size : ℕ → ℕ
size zero = 0
size (suc k) = 2 * (size k + 4001000)

-- a matrix after k delays, with guards and resets among them
abbrev pub Visited : ℕ → ℕ → Matrix (Upper ℤ) → Type 0
Visited w k m = Visit w (size k) 4001000 m

pub start_visited : (w : ℕ) → Visited w 0 start
unfolding start size
start_visited w = small_visit 4001000 (start_closed w) (λ i j hi hj. record { size = omega arith })

delayed_visited : {w : ℕ} {m : Matrix (Upper ℤ)} (k : ℕ) → Visited w k m → Visited w (suc k) (delayed w none m)
unfolding size
delayed_visited k a = delayed_visit 4001000 a.closed (visit_small a)

-- ---- guards and resets
one_clock : {parameters w : ℕ} {g : Guard} → GuardRight parameters w g → (g.left ≡ 0) ⊎ (g.right ≡ 0)
one_clock {g = g} r = by r.one_zero_lem
  where
    by : ((g.left ≡ 0) × (0 < g.right)) ⊎ ((0 < g.left) × (g.right ≡ 0)) → (g.left ≡ 0) ⊎ (g.right ≡ 0)
    by (inl h) = inl h.0
    by (inr h) = inr h.1

-- the outcome, if it is a matrix, has P
abbrev pub IfKept : (Matrix (Upper ℤ) → Type 0) → Outcome → Type 0
IfKept P void = Unit
IfKept P (kept m) = P m

if_kept : (P : Matrix (Upper ℤ) → Type 0) (r : Outcome) → ((m : Matrix (Upper ℤ)) → r ≡ kept m → P m) → IfKept P r
if_kept P void f = tt
if_kept P (kept m) f = f m refl

then_kept : (P Q : Matrix (Upper ℤ) → Type 0) (f : Matrix (Upper ℤ) → Outcome) → ((m : Matrix (Upper ℤ)) → P m → IfKept Q (f m))
    → (r : Outcome) → IfKept P r → IfKept Q (and_then r f)
then_kept P Q f b void a = tt
then_kept P Q f b (kept m) a = b m a

reset_cond : {w B C : ℕ} {m : Matrix (Upper ℤ)} (r : ℕ) (b : Bool) → r ≤ w → Visit w B C m → Visit w B C (cond b (reset_m w r m) m)
reset_cond r true hr a = reset_visit r hr a
reset_cond r false hr a = a

resets_visit : {w B C : ℕ} {m : Matrix (Upper ℤ)} (bits k : ℕ) → k ≤ w → Visit w B C m → Visit w B C (resets_m w bits k m)
unfolding resets_m
resets_visit bits zero h a = a
resets_visit bits (suc k) h a = reset_cond (suc k) (eqb (bits / 2 ^ k % 2) 1) h (resets_visit bits k (omega arith) a)

-- ---- any list of steps
module _ (parameters : ℕ) {w : ℕ} (v : List ℤ) (h : Thousands v) where
  step_if : (s : Step) → StepRight parameters w s → (k : ℕ) (m : Matrix (Upper ℤ)) → Visited w k m
      → IfKept (Visited w (after k s)) (step w v s m)
  unfolding step
  step_if delay r k m a = delayed_visited k a
  step_if (guard visit g) r k m a =
      if_kept (Visited w k) (guarded w g.left g.right (at_v v (bound_as g.bound)) m)
      (λ m' e. guarded_visit a (guard_size v r h) g.left g.right r.left r.right (one_clock r) e)
  step_if (resets bits) r k m a = resets_visit bits w (omega arith) a

  pub step_visited : {m m' : Matrix (Upper ℤ)} (s : Step) → StepRight parameters w s → (k : ℕ) → Visited w k m → step w v s m ≡ kept m'
      → Visited w (after k s) m'
  step_visited {m} s r k a e = subst (IfKept (Visited w (after k s))) e (step_if s r k m a)

  walk_if : (steps : List Step) → AllOf (StepRight parameters w) steps → (k : ℕ) (m : Matrix (Upper ℤ)) → Visited w k m
      → IfKept (Visited w (k + delays steps)) (walk w v steps m)
  unfolding walk
  walk_if [] r k m a =
      let e : k ≡ k + delays [] = none_more k in
      subst (λ (n : ℕ). Visited w n m) e a
  walk_if (s ∷ steps) r k m a =
      then_kept (Visited w (after k s)) (Visited w (k + delays (s ∷ steps))) (walk w v steps)
      (λ b c. subst (λ (n : ℕ). IfKept (Visited w n) (walk w v steps b)) (after_delays k s steps) (walk_if steps r.1 (after k s) b c))
      (step w v s m) (step_if s r.0 k m a)

  pub walk_visited : {m m' : Matrix (Upper ℤ)} (steps : List Step) → AllOf (StepRight parameters w) steps → (k : ℕ) → Visited w k m
      → walk w v steps m ≡ kept m' → Visited w (k + delays steps) m'
  walk_visited {m} steps r k a e = subst (IfKept (Visited w (k + delays steps))) e (walk_if steps r k m a)

-- ---- all of it lies within 2 ^ 57
pub size_order : (j k : ℕ) → j ≤ k → size j ≤ size k
unfolding size
size_order zero k h = omega arith
size_order (suc j) zero h = absurd (omega arith)
size_order (suc j) (suc k) h = omega (arith, size_order j k (omega arith))

size_34 : size 34 < 2 ^ 57
unfolding size
size_34 = omega arith

pub visited_within : {w : ℕ} {m : Matrix (Upper ℤ)} (k : ℕ) → k ≤ 33 → Visited w k m → Small w (2 ^ 57) m
unfolding size
visited_within k h a i j hi hj = at_most_more (omega (arith, size_order (suc k) 34 (omega arith), size_34)) (visit_small a i j hi hj)

-- every number after any right steps with at most 33 delays
pub steps_within : (parameters : ℕ) {w : ℕ} {m : Matrix (Upper ℤ)} (v : List ℤ) → Thousands v → (steps : List Step)
    → AllOf (StepRight parameters w) steps → delays steps ≤ 33 → walk w v steps start ≡ kept m → Small w (2 ^ 57) m
steps_within parameters {w} v h steps r few e =
    visited_within (0 + delays steps) (omega arith) (walk_visited parameters v h steps r 0 (start_visited w) e)

-- so every number that Sweep comes to, along the sheet's own route
pub sweep_within : {s : Sheet} {m : Matrix (Upper ℤ)} → WellFormed s → (v : List ℤ) → Thousands v → sweep_at s v ≡ kept m
    → Small s.clocks (2 ^ 57) m
unfolding sweep_at sweep_along
sweep_within {s} f v h e =
    steps_within s.parameters v h (steps_of s (route_of s)) (steps_right f (route_of s)) (route_delays f) e

-- ---- so the code's sums and tests, which count a number past 2 ^ 62 - 1 as that end, are exact
pub saturated_same : (a : Upper ℤ) {B : ℕ} → B < 2 ^ 62 → AtMost B a → saturated a ≡ a
unfolding saturated
saturated_same none g h = refl
saturated_same (upper t x) {B} g h =
    ap (upper t) (saturate_small MOST x 4611686018427387903 refl (omega (arith, h.size)))

test_same : {a b : Upper ℤ} {A B : ℕ} → A < 2 ^ 62 → AtMost A a → B < 2 ^ 62 → AtMost B b
    → tighter_w (saturated a) (saturated b) ≡ tighter_w a b
test_same {a} {b} f h g k = rw (saturated_same a f h, saturated_same b g k) refl

module _ {w : ℕ} {m : Matrix (Upper ℤ)} {e : Upper ℤ} (h : Small w (2 ^ 57) m) (g : AtMost 4001000 e) where
  -- e + (j, i), which says whether a guard leaves it void
  pub loop_exact : (i j : ℕ) → i ≤ w → j ≤ w → sum_w (saturated e) (saturated (m j i)) ≡ sum_w e (m j i)
  loop_exact i j hi hj = rw (saturated_same e (omega arith) g, saturated_same (m j i) (omega arith) (h j i hj hi)) refl

  -- (k, i) + e + (j, l), what a guard gives to (k, l)
  pub way_exact : (i j k l : ℕ) → i ≤ w → j ≤ w → k ≤ w → l ≤ w
      → sum_w (saturated (sum_w (saturated (m k i)) (saturated e))) (saturated (m j l)) ≡ sum_w (sum_w (m k i) e) (m j l)
  way_exact i j k l hi hj hk hl =
      let a = at_most_sum (h k i hk hi) g in
      rw (saturated_same (m k i) (omega arith) (h k i hk hi), saturated_same e (omega arith) g) (
      rw (saturated_same (sum_w (m k i) e) (omega arith) a, saturated_same (m j l) (omega arith) (h j l hj hl)) refl
      )

  -- the tests: e + (j, i) against zero, e against (i, j), and (k, i) + e + (j, l) against (k, l)
  pub loop_tested : (i j : ℕ) → i ≤ w → j ≤ w → tighter_w (saturated (sum_w e (m j i))) (saturated zero_w) ≡ tighter_w (sum_w e (m j i)) zero_w
  loop_tested i j hi hj = test_same {B = 0} (omega arith) (at_most_sum g (h j i hj hi)) (omega arith) (record { size = omega arith })

  pub guard_tested : (i j : ℕ) → i ≤ w → j ≤ w → tighter_w (saturated e) (saturated (m i j)) ≡ tighter_w e (m i j)
  guard_tested i j hi hj = test_same (omega arith) g (omega arith) (h i j hi hj)

  pub way_tested : (i j k l : ℕ) → i ≤ w → j ≤ w → k ≤ w → l ≤ w
      → tighter_w (saturated (sum_w (sum_w (m k i) e) (m j l))) (saturated (m k l)) ≡ tighter_w (sum_w (sum_w (m k i) e) (m j l)) (m k l)
  way_tested i j k l hi hj hk hl =
      test_same (omega arith) (at_most_sum (at_most_sum (h k i hk hi) g) (h j l hj hl)) (omega arith) (h k l hk hl)
