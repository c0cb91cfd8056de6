-- Steps as relations between clock values before and after, and Sweep's rules against them: a delay, a guard, resets, and any list of
-- steps.
use Rattle.std.specs.Prelude.{◌≡◌, refl, ◌↔◌, ◌⊎◌, ◌≢◌, Bool, true, false, cond, ℕ, zero, suc, ◌*◌, ◌/◌, ◌%◌, ◌^◌, ◌≤◌, ◌<◌, eqb, ℤ, pos, ◌-ℤ◌, ◌*ℤ◌}
use Rattle.std.proofs.Common.{sym, ◌∙◌, inl, inr, arith}
use Rattle.std.proofs.Math.Path.{ap, fun_ext}
use mathlib.Core.List.{List, [], ◌∷◌}
use Rattle.std.proofs.Math.IntN.{*ℤ-zero}
use Rattle.integer.specs.Apart.{apart}
use Rattle.dbm.specs.Matrix.{Matrix, delayed, reset_m, resets_m, Outcome, void, kept, guarded, Keeps, State, Meets, moved, put, times}
use Rattle.dbm.specs.Matrix.{Closed, After}
use Rattle.dbm.specs.Weights.{keeps-≡, keeps_times}
use Rattle.dbm.specs.Entries.{same_or_not, put_same, put_other}
use Rattle.dbm.specs.State.{difference_times, times_moved, times_put}
use Rattle.dbm.proofs.Guard.{guarded_right, after_none}
use Rattle.dbm.proofs.Delay.{delayed_closed, delayed_met, delayed_from}
use Rattle.dbm.proofs.Reset.{reset_closed, reset_met, reset_from}
use Rattle.expr.specs.Affine.{Affine, value}
use Rattle.weight.specs.Upper.{Upper, none, upper}
use Rattle.expr.specs.Bounds.{at_v}
use Rattle.expr.specs.Records.{affine, bound_as}
use Rattle.guards.specs.declared.Guard.{Guard}
use Rattle.guards.specs.Right.{GuardRight}
use Rattle.timed.specs.Lists.{AllOf}
use Rattle.timed.specs.Right.{StepRight}
use Rattle.timed.specs.Runs.{Clocks, waited, after_resets, Compared, Holds}
use Rattle.timed.specs.Steps.{Step, delay, guard, resets}
use Rattle.concrete.specs.Walk.{step, walk}
use Rattle.concrete.specs.Moves.{Relation, Same, Then, Stable, Comes, Kept, Moves, and_then_moves, then_stable, moves_as, Asks}
use Rattle.concrete.specs.Moves.{after_moves}

-- ---- a wait
abbrev pub Waits : Relation
Waits D x y = (d : ℕ) × (y ≡ waited d x)

waited_at : (d : ℕ) (x : Clocks) (i : ℕ) → waited d x i ≡ moved d x i
unfolding waited moved
waited_at d x zero = refl
waited_at d x (suc i) = refl

waited_moved : (d : ℕ) (x : Clocks) → waited d x ≡ moved d x
waited_moved d x = fun_ext (waited_at d x)

moved_state : {D : ℕ} {x : Clocks} (d : ℕ) → State D x → State D (moved d x)
unfolding moved
moved_state d s = record { parts = s.parts; clock0 = s.clock0 }

waits_moves : {w : ℕ} {m : Matrix (Upper ℤ)} → Closed w m → Kept w m Waits (delayed w none m)
waits_moves {w} {m} c = record {
  closed = delayed_closed c;
  forward = λ D x y s h (d, e). rw (e, waited_moved d x) (moved_state d s, delayed_met x d h);
  back = back;
}
  where
    back : (D : ℕ) (y : Clocks) → State D y → Meets w (delayed w none m) D y → Comes w m Waits D y
    back D y s h =
        let (d, x, t, g, e) = delayed_from c s h in
        record {
          factor = 2;
          some = omega arith;
          before = x;
          after = waited d x;
          state = t;
          meets = g;
          leads = (d, refl);
          same = λ i hi. waited_at d x i ∙ e i;
        }

-- a wait with all values multiplied, and one from the same values
times_waited : (K d : ℕ) (x : Clocks) → times K (waited d x) ≡ waited (K * d) (times K x)
times_waited K d x = rw (waited_moved d x, waited_moved (K * d) (times K x)) (fun_ext (times_moved K d x))

waited_same : {w : ℕ} (d : ℕ) {x y : Clocks} → Same w x y → Same w (waited d x) (waited d y)
unfolding waited
waited_same d e zero hi = e zero hi
waited_same d {x} {y} e (suc i) hi = rw (e (suc i) hi) refl

waits_stable : (w : ℕ) → Stable w Waits
waits_stable w = record {
  scales = λ K D x y g (d, e). (K * d, ap (times K) e ∙ times_waited K d x);
  same = λ D x x' y e (d, f). (waited d x', (d, refl), λ i hi. ap (λ (z : Clocks). z i) f ∙ waited_same d e i hi);
}

-- ---- a guard
by_mark : (D : ℕ) (v : List ℤ) (d : ℤ) (e : Affine) (missing strict : Bool) → missing ≡ false
    → Compared strict d (pos D *ℤ value e v) ↔ Keeps D d (at_v v (cond missing none (upper strict e)))
unfolding at_v
by_mark D v d e true strict h = absurd (apart cc)
by_mark D v d e false true h = (λ k. record { is_below = k }, λ k. k.is_below)
by_mark D v d e false false h = (λ k. record { is_below = k }, λ k. k.is_below)

-- a right guard holds exactly if the difference Keeps its weight
holds_keeps : (D : ℕ) (v : List ℤ) (x : Clocks) (g : Guard) → g.bound.none ≡ false
    → Holds D v x g ↔ Keeps D (x g.left -ℤ x g.right) (at_v v (bound_as g.bound))
holds_keeps D v x g h = by_mark D v (x g.left -ℤ x g.right) (affine g.bound.expr) g.bound.none g.bound.strict h

after_iff : (w : ℕ) (m : Matrix (Upper ℤ)) (P Q : ℕ → Clocks → Type 0) → ((D : ℕ) (x : Clocks) → P D x ↔ Q D x)
    → (r : Outcome) → After w m P r → After w m Q r
after_iff w m P Q f void a = λ D x s h q. a D x s h ((f D x).1 q)
after_iff w m P Q f (kept m') a =
    (a.0, λ D x s. (λ h. let (g, p) = (a.1 D x s).0 h in (g, (f D x).0 p), λ h. (a.1 D x s).1 (h.0, (f D x).1 h.1)))

-- the guard holds, and nothing changes
abbrev pub Guarded : List ℤ → Guard → Relation
Guarded v g = Asks (λ D x. Holds D v x g)

module _ (parameters : ℕ) {w : ℕ} (v : List ℤ) (g : Guard) (r : GuardRight parameters w g) where
  guard_moves : (m : Matrix (Upper ℤ)) → Closed w m
      → Moves w m (Guarded v g) (guarded w g.left g.right (at_v v (bound_as g.bound)) m)
  guard_moves m c = after_moves w m (λ D x. Holds D v x g) (guarded w g.left g.right (at_v v (bound_as g.bound)) m)
      (after_iff w m (λ D x. Keeps D (x g.left -ℤ x g.right) (at_v v (bound_as g.bound))) (λ D x. Holds D v x g)
      (λ D x. let (to, from) = holds_keeps D v x g r.some in (from, to))
      (guarded w g.left g.right (at_v v (bound_as g.bound)) m)
      (guarded_right c r.left r.right (at_v v (bound_as g.bound))))

  holds_times : (K D : ℕ) (x : Clocks) → 1 ≤ K → Holds D v x g → Holds (K * D) v (times K x) g
  holds_times K D x k h = (holds_keeps (K * D) v (times K x) g r.some).1
      (keeps-≡ (difference_times K x g.left g.right) (keeps_times K k ((holds_keeps D v x g r.some).0 h)))

  guard_stable : Stable w (Guarded v g)
  guard_stable = record {
    scales = λ K D x y k (h, e). (holds_times K D x k h, ap (times K) e);
    same = λ D x x' y e (h, f). (x', (rw (← e g.left r.left, ← e g.right r.right) h, refl), λ i hi. rw f (e i hi));
  }

-- ---- resets, clock by clock
abbrev Put : ℕ → Relation
Put r D x y = y ≡ put r (pos 0) x

put_moves : {w : ℕ} {m : Matrix (Upper ℤ)} (r : ℕ) → 1 ≤ r → r ≤ w → Closed w m → Kept w m (Put r) (reset_m w r m)
put_moves {w} {m} r g hr c = record {
  closed = reset_closed c hr;
  forward = λ D x y s h e. rw e (
    record {
      parts = s.parts;
      clock0 = put_other r (pos 0) x 0 (omega arith) ∙ s.clock0;
    },
    reset_met c hr s h,
  );
  back = back;
}
  where
    back : (D : ℕ) (y : Clocks) → State D y → Meets w (reset_m w r m) D y → Comes w m (Put r) D y
    back D y s h =
        let (x, t, k, e) = reset_from c hr s h g in
        record {
          factor = 2;
          some = omega arith;
          before = x;
          after = put r (pos 0) x;
          state = t;
          meets = k;
          leads = refl;
          same = λ i hi. e i;
        }

put_stable : (w r : ℕ) → Stable w (Put r)
unfolding put
put_stable w r = record {
  scales = λ K D x y g e. ap (times K) e ∙ fun_ext (times_put K r x);
  same = λ D x x' y e f. (put r (pos 0) x', refl, λ i hi. ap (λ (z : Clocks). z i) f ∙ ap (λ (z : ℤ). cond (eqb i r) (pos 0) z) (e i hi));
}

abbrev pick_r : Bool → Relation → Relation → Relation
pick_r true R S = R
pick_r false R S = S

-- clocks 1 to n, in rising order
Puts : ℕ → ℕ → Relation
Puts bits zero = Asks (λ D x. Unit)
Puts bits (suc n) = pick_r (eqb (bits / 2 ^ n % 2) 1) (Then (Puts bits n) (Put (suc n))) (Puts bits n)

puts_step : {w : ℕ} {m before : Matrix (Upper ℤ)} (n : ℕ) (R : Relation) (b : Bool) → suc n ≤ w → Kept w m R before
    → Kept w m (pick_r b (Then R (Put (suc n))) R) (cond b (reset_m w (suc n) before) before)
puts_step {w} {m} {before} n R true h a =
    and_then_moves w m R (Put (suc n)) (λ b. kept (reset_m w (suc n) b)) (put_stable w (suc n))
    (λ m₁ c. put_moves (suc n) (omega arith) h c) (kept before) a
puts_step n R false h a = a

puts_moves : {w : ℕ} {m : Matrix (Upper ℤ)} (bits n : ℕ) → n ≤ w → Closed w m → Kept w m (Puts bits n) (resets_m w bits n m)
unfolding Puts resets_m
puts_moves {w} {m} bits zero h c = after_moves w m (λ D x. Unit) (kept m) (after_none c)
puts_moves bits (suc n) h c = puts_step n (Puts bits n) (eqb (bits / 2 ^ n % 2) 1) h (puts_moves bits n (omega arith) c)

-- what the resets of clocks 1 to n leave
record Told (bits n : ℕ) (x y : Clocks) : Type 0 where
  done : (i : ℕ) → i ≤ n → y i ≡ after_resets bits x i
  others : (i : ℕ) → n < i → y i ≡ x i

told_yes : (bits n : ℕ) (x z y : Clocks) → eqb (bits / 2 ^ n % 2) 1 ≡ true → Told bits n x z → y ≡ put (suc n) (pos 0) z
    → Told bits (suc n) x y
unfolding after_resets
told_yes bits n x z y t a e = record {
  done = λ i h. rw e (by i h (same_or_not i (suc n)));
  others = λ i h. rw (e, put_other (suc n) (pos 0) z i (omega arith)) (a.others i (omega arith));
}
  where
    by : (i : ℕ) → i ≤ suc n → (i ≡ suc n) ⊎ (i ≢ suc n) → put (suc n) (pos 0) z i ≡ after_resets bits x i
    by i h (inl f) = rw (f, put_same) (rw t refl)
    by i h (inr f) = put_other (suc n) (pos 0) z i f ∙ a.done i (omega arith)

told_no : (bits n : ℕ) (x y : Clocks) → eqb (bits / 2 ^ n % 2) 1 ≡ false → Told bits n x y → Told bits (suc n) x y
unfolding after_resets
told_no bits n x y t a = record {
  done = λ i h. by i h (same_or_not i (suc n));
  others = λ i h. a.others i (omega arith);
}
  where
    by : (i : ℕ) → i ≤ suc n → (i ≡ suc n) ⊎ (i ≢ suc n) → y i ≡ after_resets bits x i
    by i h (inl f) = rw f (rw t (a.others (suc n) (omega arith)))
    by i h (inr f) = a.done i (omega arith)

told_step : (bits n D : ℕ) (x y : Clocks) (b : Bool) → eqb (bits / 2 ^ n % 2) 1 ≡ b → ((z : Clocks) → Puts bits n D x z → Told bits n x z)
    → pick_r b (Then (Puts bits n) (Put (suc n))) (Puts bits n) D x y → Told bits (suc n) x y
told_step bits n D x y true t f (z, a, e) = told_yes bits n x z y t (f z a) e
told_step bits n D x y false t f a = told_no bits n x y t (f y a)

puts_told : (bits n D : ℕ) (x y : Clocks) → Puts bits n D x y → Told bits n x y
unfolding Puts after_resets
puts_told bits zero D x y (u, e) = record { done = λ i h. at_zero i (omega arith); others = λ i h. rw e refl }
  where
    at_zero : (i : ℕ) → i ≡ 0 → y i ≡ after_resets bits x i
    at_zero i f = rw (e, f) refl
puts_told bits (suc n) D x y a = told_step bits n D x y (eqb (bits / 2 ^ n % 2) 1) refl (puts_told bits n D x) a

total_step : (bits n D : ℕ) (x : Clocks) (b : Bool) → (z : Clocks) × Puts bits n D x z
    → (y : Clocks) × pick_r b (Then (Puts bits n) (Put (suc n))) (Puts bits n) D x y
total_step bits n D x true (z, a) = (put (suc n) (pos 0) z, (z, a, refl))
total_step bits n D x false (z, a) = (z, a)

puts_total : (bits n D : ℕ) (x : Clocks) → (y : Clocks) × Puts bits n D x y
unfolding Puts
puts_total bits zero D x = (x, (tt, refl))
puts_total bits (suc n) D x = total_step bits n D x (eqb (bits / 2 ^ n % 2) 1) (puts_total bits n D x)

-- ---- the resets of a step
abbrev pub Resets : ℕ → Relation
Resets bits D x y = y ≡ after_resets bits x

resets_moves : {w : ℕ} {m : Matrix (Upper ℤ)} (bits : ℕ) → Closed w m → Kept w m (Resets bits) (resets_m w bits w m)
resets_moves {w} {m} bits c = moves_as w m (Puts bits w) (Resets bits) to from (kept (resets_m w bits w m))
    (puts_moves bits w (omega arith) c)
  where
    to : (D : ℕ) (x y : Clocks) → Puts bits w D x y → (y' : Clocks) × Resets bits D x y' × Same w y y'
    to D x y a = (after_resets bits x, refl, (puts_told bits w D x y a).done)

    from : (D : ℕ) (x y : Clocks) → Resets bits D x y → (y' : Clocks) × Puts bits w D x y' × Same w y y'
    from D x y e = let (z, a) = puts_total bits w D x in (
      z,
      a,
      λ i hi. ap (λ (u : Clocks). u i) e ∙ sym ((puts_told bits w D x z a).done i hi),
    )

cond_times : (K : ℕ) (b : Bool) (z : ℤ) → pos K *ℤ cond b (pos 0) z ≡ cond b (pos 0) (pos K *ℤ z)
cond_times K true z = *ℤ-zero (pos K)
cond_times K false z = refl

times_resets_at : (K bits : ℕ) (x : Clocks) (i : ℕ) → times K (after_resets bits x) i ≡ after_resets bits (times K x) i
unfolding times after_resets
times_resets_at K bits x zero = refl
times_resets_at K bits x (suc i) = cond_times K (eqb (bits / 2 ^ i % 2) 1) (x (suc i))

times_resets : (K bits : ℕ) (x : Clocks) → times K (after_resets bits x) ≡ after_resets bits (times K x)
times_resets K bits x = fun_ext (times_resets_at K bits x)

resets_same : {w : ℕ} (bits : ℕ) {x y : Clocks} → Same w x y → Same w (after_resets bits x) (after_resets bits y)
unfolding after_resets
resets_same bits e zero hi = e zero hi
resets_same bits e (suc i) hi = ap (λ (z : ℤ). cond (eqb (bits / 2 ^ i % 2) 1) (pos 0) z) (e (suc i) hi)

resets_stable : (w bits : ℕ) → Stable w (Resets bits)
resets_stable w bits = record {
  scales = λ K D x y g e. ap (times K) e ∙ times_resets K bits x;
  same = λ D x x' y e f. (after_resets bits x', refl, λ i hi. ap (λ (z : Clocks). z i) f ∙ resets_same bits e i hi);
}

-- ---- one step, and any list of steps
abbrev pub Makes : List ℤ → Step → Relation
Makes v delay = Waits
Makes v (guard visit g) = Guarded v g
Makes v (resets bits) = Resets bits

unfoldable pub Along : List ℤ → List Step → Relation
Along v [] = Asks (λ D x. Unit)
Along v (s ∷ steps) = Then (Makes v s) (Along v steps)

module _ (parameters : ℕ) {w : ℕ} (v : List ℤ) where
  step_moves : (s : Step) → StepRight parameters w s → (m : Matrix (Upper ℤ)) → Closed w m → Moves w m (Makes v s) (step w v s m)
  unfolding step
  step_moves delay r m c = waits_moves c
  step_moves (guard visit g) r m c = guard_moves parameters v g r m c
  step_moves (resets bits) r m c = resets_moves bits c

  step_stable : (s : Step) → StepRight parameters w s → Stable w (Makes v s)
  step_stable delay r = waits_stable w
  step_stable (guard visit g) r = guard_stable parameters v g r
  step_stable (resets bits) r = resets_stable w bits

  pub along_stable : (steps : List Step) → AllOf (StepRight parameters w) steps → Stable w (Along v steps)
  unfolding Along
  along_stable [] r = record {
    scales = λ K D x y g (u, e). (tt, ap (times K) e);
    same = λ D x x' y e (u, f). (x', (tt, refl), λ i hi. rw f (e i hi));
  }
  along_stable (s ∷ steps) r = then_stable (Makes v s) (Along v steps) (step_stable s r.0) (along_stable steps r.1)

  -- the walk's outcome is right for the steps
  pub walk_moves : (steps : List Step) → AllOf (StepRight parameters w) steps → (m : Matrix (Upper ℤ)) → Closed w m
      → Moves w m (Along v steps) (walk w v steps m)
  unfolding Along walk
  walk_moves [] r m c = after_moves w m (λ D x. Unit) (kept m) (after_none c)
  walk_moves (s ∷ steps) r m c = and_then_moves w m (Makes v s) (Along v steps) (walk w v steps) (along_stable steps r.1)
      (walk_moves steps r.1) (step w v s m) (step_moves s r.0 m c)
