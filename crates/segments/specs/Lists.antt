-- The steps of a stay and of a transition as lists; stepping through them is `stay_all` and `move_all`.
use Rattle.std.specs.Prelude.{◌≡◌, ℕ, suc, ◌+◌, ◌≤◌, ◌<◌, length, set, replicate}
use Rattle.std.proofs.Math.Path.{refl, ap}
use Rattle.std.proofs.Common.{sym, subst, ◌∙◌, add-one, arith, lt-ltb, length-set, length-take}
use mathlib.Core.List.{List, [], ◌∷◌, ◌++◌, map}
use Rattle.std.proofs.Math.ListN.{take}
use Rattle.automaton.specs.declared.Location.{Location}
use Rattle.automaton.specs.declared.Transition.{Transition}
use Rattle.expr.specs.declared.range.Ranges.{Ranges}
use Rattle.guards.specs.declared.Guard.{Guard}
use Rattle.delay.specs.Delayed.{resets_all}
use Rattle.steps.specs.Places.{take_more}
use Rattle.steps.specs.Steps.{at_visit, step_c, steps_all, with_step_c, with_guards_c}
use Rattle.steps.specs.declared.step.Step.{Step}
use Rattle.steps.specs.declared.step.Step.TheVariants as step
use Rattle.steps.specs.declared.step.Steps.{Steps}
use Rattle.segments.specs.Walked.{guards_all, invariants_all, stay_all, move_all}
use Rattle.zones.specs.declared.zone.Zones.{Zones}

-- a location's invariants
abbrev pub invariant_steps : Location → List Step
invariant_steps here = map step.Guard (take here.count here.guards)

-- a stay
abbrev pub stay_steps : Location → List Step
stay_steps here = (step.Delay ∷ []) ++ invariant_steps here

-- a stay and the transition that ends it
abbrev pub move_steps : Location → ℕ → Transition → Location → List Step
move_steps here visit t there =
    ((stay_steps here ++ map step.Guard (take t.count t.guards)) ++ (step.Resets t.resets (suc visit) ∷ [])) ++ invariant_steps there

-- the code's list has these steps, at most so many
pub record Lists (most : ℕ) (l : List Step) (ss : Steps) : Type 0 where
  pub same : take ss.count ss.list ≡ l
  pub few : ss.count ≤ most
  pub long : length ss.list ≡ 20

module _ (b : Ranges) (w : ℕ) where
  steps_append : (k l : List Step) (zs : Zones) → steps_all b w (k ++ l) zs ≡ steps_all b w l (steps_all b w k zs)
  unfolding steps_all
  steps_append [] l zs = refl
  steps_append (st ∷ k) l zs = steps_append k l (step_c b w st zs)

  guards_steps : (gs : List Guard) (zs : Zones) → steps_all b w (map step.Guard gs) zs ≡ guards_all b w gs zs
  unfolding steps_all guards_all step_c
  guards_steps [] zs = refl
  guards_steps (g ∷ gs) zs = guards_steps gs _

  pub stay_is : (here : Location) (zs : Zones) → steps_all b w (stay_steps here) zs ≡ stay_all b w here zs
  unfolding steps_all step_c stay_all
  stay_is here zs = guards_steps (take here.count here.guards) _

  pub invariants_are : (here : Location) (zs : Zones) → steps_all b w (invariant_steps here) zs ≡ invariants_all b w here zs
  invariants_are here zs = guards_steps (take here.count here.guards) zs

  one_step : (bits visit : ℕ) (zs : Zones) → steps_all b w (step.Resets bits visit ∷ []) zs ≡ at_visit visit (resets_all w bits zs)
  unfolding steps_all step_c
  one_step bits visit zs = refl

  pub move_is : (here : Location) (visit : ℕ) (t : Transition) (there : Location) (zs : Zones)
      → steps_all b w (move_steps here visit t there) zs ≡ move_all b w visit t there (stay_all b w here zs)
  unfolding move_all
  move_is here visit t there zs =
      let gs = take t.count t.guards in
      let made = step.Resets t.resets (suc visit) ∷ [] in
      steps_append ((stay_steps here ++ map step.Guard gs) ++ made) (invariant_steps there) zs
      ∙ ap (steps_all b w (invariant_steps there))
      (steps_append (stay_steps here ++ map step.Guard gs) made zs
      ∙ ap (steps_all b w made)
      (steps_append (stay_steps here) (map step.Guard gs) zs
      ∙ ap (steps_all b w (map step.Guard gs)) (stay_is here zs)
      ∙ guards_steps gs (stay_all b w here zs))
      ∙ one_step t.resets (suc visit) _)
      ∙ invariants_are there _

-- ---- lists of steps grow
pub lists_none : (ss : Steps) → ss.count ≡ 0 → length ss.list ≡ 20 → Lists 0 [] ss
lists_none ss h l = record { same = rw h refl; few = omega arith; long = l }

pub lists_step : (n : ℕ) (l : List Step) (ss : Steps) (st : Step) → n < 20 → Lists n l ss → Lists (suc n) (l ++ st ∷ []) (with_step_c ss st)
unfolding with_step_c
lists_step n l ss st h k =
    rw (lt-ltb ss.count 20 (omega (arith, k.few)))
    (record {
      same =
          ap (λ (m : ℕ). take m (set ss.list ss.count st)) (add-one ss.count)
          ∙ take_more ss.count ss.list st (omega (arith, k.few, k.long))
          ∙ ap (λ (x : List Step). x ++ st ∷ []) k.same;
      few = omega (arith, k.few);
      long = length-set ss.list ss.count st ∙ k.long;
    })

append_assoc : (k l m : List Step) → (k ++ l) ++ m ≡ k ++ (l ++ m)
append_assoc [] l m = refl
append_assoc (x ∷ k) l m = ap (λ (r : List Step). x ∷ r) (append_assoc k l m)

append_nil : (l : List Step) → l ++ [] ≡ l
append_nil [] = refl
append_nil (x ∷ l) = ap (λ (r : List Step). x ∷ r) (append_nil l)

lists_all : (n : ℕ) (gs : List Guard) (l : List Step) (ss : Steps) → n + length gs ≤ 20 → Lists n l ss
    → Lists (n + length gs) (l ++ map step.Guard gs) (with_guards_c ss gs)
unfolding with_guards_c
lists_all n [] l ss h k =
    let same : n + 0 ≡ n = omega arith in
    subst (λ (m : ℕ). Lists m (l ++ []) ss) (sym same) (subst (λ (x : List Step). Lists n x ss) (sym (append_nil l)) k)
lists_all n (g ∷ gs) l ss h k =
    let next = lists_all (suc n) gs (l ++ step.Guard g ∷ []) (with_step_c ss (step.Guard g)) (omega arith)
    (lists_step n l ss (step.Guard g) (omega arith) k) in
    let same : suc n + length gs ≡ n + suc (length gs) = omega arith in
    subst (λ (m : ℕ). Lists m (l ++ step.Guard g ∷ map step.Guard gs) (with_guards_c (with_step_c ss (step.Guard g)) gs)) same
    (subst (λ (x : List Step). Lists (suc n + length gs) x (with_guards_c (with_step_c ss (step.Guard g)) gs))
    (append_assoc l (step.Guard g ∷ []) (map step.Guard gs)) next)

pub lists_more : (n m : ℕ) (l : List Step) (ss : Steps) → n ≤ m → Lists n l ss → Lists m l ss
lists_more n m l ss h k = record { same = k.same; few = omega (arith, k.few); long = k.long }

-- the first guards of six
pub lists_guards : (n count : ℕ) (xs : List Guard) (l : List Step) (ss : Steps) → length xs ≡ 6 → n + 6 ≤ 20 → Lists n l ss
    → Lists (n + 6) (l ++ map step.Guard (take count xs)) (with_guards_c ss (take count xs))
lists_guards n count xs l ss six h k =
    let few : length (take count xs) ≤ 6 = omega (arith, length-take count xs, six) in
    lists_more (n + length (take count xs)) (n + 6) _ _ (omega arith) (lists_all n (take count xs) l ss (omega arith) k)

-- ---- the code's lists, call by call
abbrev pub empty_steps : Steps
empty_steps = record { count = 0; list = replicate 20 step.Delay }

pub none_lists : Lists 0 [] empty_steps
none_lists = record { same = refl; few = omega arith; long = refl }

pub stay_lists : (here : Location) → length here.guards ≡ 6 → (s r : Steps) → s ≡ with_step_c empty_steps step.Delay
    → r ≡ with_guards_c s (take here.count here.guards) → Lists 7 (stay_steps here) r
stay_lists here six s r hs hr =
    subst (Lists 7 (stay_steps here)) (sym (hr ∙ ap (λ (x : Steps). with_guards_c x (take here.count here.guards)) hs))
    (lists_guards 1 here.count here.guards (step.Delay ∷ []) (with_step_c empty_steps step.Delay) six (omega arith)
    (lists_step 0 [] empty_steps step.Delay (omega arith) none_lists))

pub start_lists : (here : Location) → length here.guards ≡ 6 → (r : Steps) → r ≡ with_guards_c empty_steps (take here.count here.guards)
    → Lists 6 (invariant_steps here) r
start_lists here six r hr =
    subst (Lists 6 (invariant_steps here)) (sym hr)
    (lists_guards 0 here.count here.guards [] empty_steps six (omega arith) none_lists)

pub move_lists : (here : Location) (visit : ℕ) (t : Transition) (there : Location) → length t.guards ≡ 6 → length there.guards ≡ 6
    → (s l m r : Steps) → Lists 7 (stay_steps here) s → l ≡ with_guards_c s (take t.count t.guards)
    → m ≡ with_step_c l (step.Resets t.resets (visit + 1)) → r ≡ with_guards_c m (take there.count there.guards)
    → Lists 20 (move_steps here visit t there) r
move_lists here visit t there six six' s l m r hs hl hm hr =
    let limited : Lists 13 _ l =
    subst (Lists 13 (stay_steps here ++ map step.Guard (take t.count t.guards))) (sym hl)
    (lists_guards 7 t.count t.guards (stay_steps here) s six (omega arith) hs) in
    let made : Lists 14 _ m =
    subst (Lists 14 ((stay_steps here ++ map step.Guard (take t.count t.guards)) ++ (step.Resets t.resets (suc visit) ∷ [])))
    (sym (hm ∙ ap (λ (k : ℕ). with_step_c l (step.Resets t.resets k)) (add-one visit)))
    (lists_step 13 (stay_steps here ++ map step.Guard (take t.count t.guards)) l (step.Resets t.resets (suc visit)) (omega
    arith) limited) in
    subst (Lists 20 (move_steps here visit t there)) (sym hr)
    (lists_guards 14 there.count there.guards _ m six' (omega arith) made)
