-- A step over zones in order is what each zone's part comes to, one after another.
use Rattle.std.specs.Prelude.{◌≡◌, Bool, not, cond, ℕ, suc, ◌+◌, ◌-◌, ◌≤◌, ◌<◌, ltb, length, set, replicate}
use Rattle.std.proofs.Math.Path.{refl, sym, ap}
use Rattle.std.proofs.Common.{◌∙◌, add-one, arith, length-append}
use Rattle.std.proofs.Math.Bool.{true, false}
use mathlib.Core.List.{List, [], ◌∷◌, ◌++◌, map}
use borrow.Author.Tests.{lt-ltb, le-ltb, ne_eqb, ltb-true, ltb-false}
use Rattle.std.proofs.lemmas.List.{length-map}
use Rattle.std.proofs.Math.Seq.{take-append_seam}
use Rattle.constrain.specs.declared.rule.Rule.{Rule}
use Rattle.delay.specs.Delayed.{on_first, delayed_zone, resets_zone, delayed_all, resets_all}
use Rattle.expr.specs.declared.range.Ranges.{Ranges}
use Rattle.guards.specs.declared.Guard.{Guard}
use Rattle.split.specs.Guarded.{rule_c, cut_c, cut_all, guarded_c}
use Rattle.split.specs.Listed.{none_at, list_c}
use Rattle.split.specs.Stack.{start_drained, meant_sticks}
use Rattle.split.specs.Trees.{start_c, ended_c, meant}
use Rattle.split.specs.declared.list.Counted.{Counted}
use Rattle.steps.specs.Steps.{at_visit, step_c, steps_all, changed_c, asks_c, guard_of_c, part_c}
use Rattle.steps.specs.declared.step.Step.{Step}
use Rattle.steps.specs.declared.step.Step.TheVariants as step
use Rattle.zones.specs.Zone.{blank_zone}
use Rattle.zones.specs.declared.zone.Zone.{Zone}
use Rattle.zones.specs.declared.zone.Zones.{Zones}

-- zones in order at a visit, blanks behind them
abbrev pub plain : ℕ → List Zone → Zones
plain v l = record { refusal = 0; visit = v; count = length l; list = l ++ replicate (32 - length l) blank_zone }

-- what a zone's part comes to, and those of zones in order
abbrev pub pass_one : Ranges → ℕ → Step → Zone → Counted → Counted
pass_one b w st z out = meant b (rule_c w (guard_of_c st) z) (part_c st w z) out

unfoldable pub pass_all : Ranges → ℕ → Step → List Zone → Counted → Counted
pass_all b w st [] out = out
pass_all b w st (z ∷ zs) out = pass_all b w st zs (pass_one b w st z out)

-- the zones when a step is done
unfoldable pub done : Step → Zones → Zones
done step.Delay zs = zs
done (step.Guard g) zs = zs
done (step.Resets bits visit) zs = at_visit visit zs

-- ---- one more zone behind others
append_nil : (l : List Zone) → l ++ [] ≡ l
append_nil [] = refl
append_nil (z ∷ l) = ap (λ (r : List Zone). z ∷ r) (append_nil l)

pub append_assoc : (k l m : List Zone) → (k ++ l) ++ m ≡ k ++ (l ++ m)
append_assoc [] l m = refl
append_assoc (z ∷ k) l m = ap (λ (r : List Zone). z ∷ r) (append_assoc k l m)

set_seam : {A : Type 0} (l : List A) (y z : A) (ys : List A) → set (l ++ y ∷ ys) (length l) z ≡ (l ++ z ∷ []) ++ ys
set_seam [] y z ys = refl
set_seam (x ∷ l) y z ys = ap (λ (r : List _). x ∷ r) (set_seam l y z ys)

one_more : (l : List Zone) (z : Zone) → length (l ++ z ∷ []) ≡ suc (length l)
one_more l z = length-append l (z ∷ []) ∙ add-one (length l)

pub list_plain : (v : ℕ) (l : List Zone) (z : Zone) (k : ℕ) (out : Counted) → out.zones ≡ plain v l → length l < 32
    → (list_c z k out).zones ≡ plain v (l ++ z ∷ [])
unfolding list_c
list_plain v l z k out e h =
    let blanks : 32 - length l ≡ suc (31 - length l) = omega arith in
    let fewer : 31 - length l ≡ 32 - suc (length l) = omega arith in
    rw (e, lt-ltb (length l) 32 h, blanks, set_seam l blank_zone z (replicate (31 - length l) blank_zone), one_more l z, fewer) refl

pub none_plain : (v : ℕ) → (none_at v).zones ≡ plain v []
unfolding none_at
none_plain v = refl

-- ---- a step that asks nothing
module _ (b : Ranges) (w : ℕ) (st : Step) (quiet : asks_c st ≡ false) where
  pub kept_by : (z : Zone) (r : Rule) (out : Counted) → meant b r (part_c st w z) out ≡ list_c (changed_c st w z) 0 out
  unfolding part_c meant ended_c
  kept_by z r out = rw quiet refl

  pub one_kept : (z : Zone) (out : Counted) → pass_one b w st z out ≡ list_c (changed_c st w z) 0 out
  one_kept z out = kept_by z (rule_c w (guard_of_c st) z) out

  pub all_kept : (v : ℕ) (l k : List Zone) (out : Counted) → out.zones ≡ plain v k → length k + length l ≤ 32
      → (pass_all b w st l out).zones ≡ plain v (k ++ map (changed_c st w) l)
  unfolding pass_all
  all_kept v [] k out e h = e ∙ ap (plain v) (sym (append_nil k))
  all_kept v (z ∷ l) k out e h =
      let here = list_plain v k (changed_c st w z) 0 out e (omega arith) in
      let more = one_more k (changed_c st w z) in
      ap (λ (o : Counted). (pass_all b w st l o).zones) (one_kept z out)
      ∙ all_kept v l (k ++ changed_c st w z ∷ []) (list_c (changed_c st w z) 0 out) here (omega (arith, more))
      ∙ ap (plain v) (append_assoc k (changed_c st w z ∷ []) (map (changed_c st w) l))

-- ---- a guard
pub is_start : (b : Ranges) (w : ℕ) (st : Step) → asks_c st ≡ true → (z : Zone) → part_c st w z ≡ start_c z
unfolding part_c
is_start b w st a z = rw a refl

asking_all : (b : Ranges) (w : ℕ) (st : Step) → asks_c st ≡ true → (l : List Zone) (out : Counted)
    → pass_all b w st l out ≡ cut_all b w (guard_of_c st) l out
unfolding pass_all cut_all
asking_all b w st a [] out = refl
asking_all b w st a (z ∷ l) out =
    ap (pass_all b w st l) (one_asked z) ∙ asking_all b w st a l (cut_c b (rule_c w (guard_of_c st) z) z out)
  where
    one_asked : (z : Zone) → pass_one b w st z out ≡ cut_c b (rule_c w (guard_of_c st) z) z out
    one_asked z = rw (is_start b w st a z) (start_drained b (rule_c w (guard_of_c st) z) z out)

-- ---- the first of a list changed
first_changed : (f : Zone → Zone) (l r : List Zone) → on_first f (length l) (l ++ r) ≡ map f l ++ r
unfolding on_first
first_changed f [] r = refl
first_changed f (z ∷ l) r = ap (λ (x : List Zone). f z ∷ x) (first_changed f l r)

map_same : (f g : Zone → Zone) → ((z : Zone) → f z ≡ g z) → (l : List Zone) → map f l ≡ map g l
map_same f g h [] = refl
map_same f g h (z ∷ l) = λ i. h z i ∷ map_same f g h l i

map_id : (f : Zone → Zone) → ((z : Zone) → f z ≡ z) → (l : List Zone) → map f l ≡ l
map_id f h [] = refl
map_id f h (z ∷ l) = λ i. h z i ∷ map_id f h l i

plain_map : (v : ℕ) (f : Zone → Zone) (l : List Zone)
    → record { refusal = 0; visit = v; count = length l; list = on_first f (length l) (l ++ replicate (32 - length l) blank_zone) }
    ≡ plain v (map f l)
plain_map v f l = rw (first_changed f l (replicate (32 - length l) blank_zone), length-map l f) refl

-- the clocks of a guard
right_in : (r : ℕ) (t : Bool) → ltb r 5 ≡ t → ltb 4 r ≡ not t
right_in r true e = le-ltb 4 r (omega (arith, ltb-true r 5 e))
right_in r false e = lt-ltb 4 r (omega (arith, ltb-false r 5 e))

guarded_by : (b : Ranges) (w : ℕ) (g : Guard) (v : ℕ) (l : List Zone) (s t : Bool) → ltb g.left 5 ≡ s → ltb g.right 5 ≡ t
    → guarded_c b w g (plain v l) ≡ cond s (cond t (cut_all b w g l (none_at v)).zones (plain v l)) (plain v l)
unfolding guarded_c
guarded_by b w g v l s t hs ht =
    rw (right_in g.left s hs, right_in g.right t ht, take-append_seam l (replicate (32 - length l) blank_zone)) (by s t)
  where
    by : (s t : Bool)
        → cond (not s) (plain v l) (cond (not t) (plain v l) (cut_all b w g l (none_at v)).zones)
        ≡ cond s (cond t (cut_all b w g l (none_at v)).zones (plain v l)) (plain v l)
    by true true = refl
    by true false = refl
    by false t = refl

guarded_is : (b : Ranges) (w : ℕ) (g : Guard) (v : ℕ) (l : List Zone) (t : Bool) → asks_c (step.Guard g) ≡ t
    → guarded_c b w g (plain v l) ≡ cond t (cut_all b w g l (none_at v)).zones (plain v l)
unfolding asks_c
guarded_is b w g v l t a =
    guarded_by b w g v l (ltb g.left 5) (ltb g.right 5) refl refl ∙ by (ltb g.left 5) (ltb g.right 5) a
  where
    by : (s u : Bool) → cond s u false ≡ t
        → cond s (cond u (cut_all b w g l (none_at v)).zones (plain v l)) (plain v l)
        ≡ cond t (cut_all b w g l (none_at v)).zones (plain v l)
    by true u e = ap (λ (x : Bool). cond x (cut_all b w g l (none_at v)).zones (plain v l)) e
    by false u e = ap (λ (x : Bool). cond x (cut_all b w g l (none_at v)).zones (plain v l)) e

-- ---- a step on zones in order
module _ (b : Ranges) (w : ℕ) (v : ℕ) (l : List Zone) (few : length l ≤ 32) where
  abbrev after : Step → Zones
  after st = (pass_all b w st l (none_at v)).zones

  quiet_after : (st : Step) → asks_c st ≡ false → after st ≡ plain v (map (changed_c st w) l)
  quiet_after st q = all_kept b w st q v l [] (none_at v) (none_plain v) (omega (arith, few))

  delay_step_lem : step_c b w step.Delay (plain v l) ≡ after step.Delay
  unfolding step_c delayed_all asks_c changed_c
  delay_step_lem = rw (quiet_after step.Delay refl) (plain_map v (delayed_zone w) l)

  guard_step_lem : (g : Guard) → step_c b w (step.Guard g) (plain v l) ≡ after (step.Guard g)
  unfolding step_c changed_c
  guard_step_lem g = by (asks_c (step.Guard g)) refl
    where
      by : (t : Bool) → asks_c (step.Guard g) ≡ t → guarded_c b w g (plain v l) ≡ after (step.Guard g)
      by true a =
          guarded_is b w g v l true a ∙ ap (λ (o : Counted). o.zones) (sym (asking_all b w (step.Guard g) a l (none_at v)))
      by false a =
          guarded_is b w g v l false a
          ∙ ap (plain v) (sym (map_id (changed_c (step.Guard g) w) (λ z. refl) l))
          ∙ sym (quiet_after (step.Guard g) a)

  resets_step : (bits visit : ℕ) → step_c b w (step.Resets bits visit) (plain v l) ≡ at_visit visit (after (step.Resets bits visit))
  unfolding step_c resets_all asks_c changed_c
  resets_step bits visit = rw (quiet_after (step.Resets bits visit) refl) (ap (at_visit visit) (plain_map v (resets_zone w bits) l))

pub step_is : (b : Ranges) (w : ℕ) (st : Step) (v : ℕ) (l : List Zone) → length l ≤ 32
    → step_c b w st (plain v l) ≡ done st (pass_all b w st l (none_at v)).zones
unfolding done
step_is b w step.Delay v l few = delay_step_lem b w v l few
step_is b w (step.Guard g) v l few = guard_step_lem b w v l few g
step_is b w (step.Resets bits visit) v l few = resets_step b w v l few bits visit

-- ---- a refusal sticks
pub pass_sticks : (b : Ranges) (w : ℕ) (st : Step) (l : List Zone) (out : Counted) → 0 < out.zones.refusal → pass_all b w st l out ≡ out
unfolding pass_all
pass_sticks b w st [] out h = refl
pass_sticks b w st (z ∷ l) out h =
    let same = meant_sticks b (rule_c w (guard_of_c st) z) (part_c st w z) out h in
    ap (pass_all b w st l) same ∙ pass_sticks b w st l out h

pub done_sticks : (st : Step) (zs : Zones) → 0 < zs.refusal → done st zs ≡ zs
unfolding done at_visit
done_sticks step.Delay zs h = refl
done_sticks (step.Guard g) zs h = refl
done_sticks (step.Resets bits visit) zs h = rw (ne_eqb zs.refusal 0 (λ e. omega arith)) refl

none_changed : (f : Zone → Zone) (l : List Zone) → on_first f 0 l ≡ l
unfolding on_first
none_changed f l = refl

step_sticks : (b : Ranges) (w : ℕ) (st : Step) (zs : Zones) → 0 < zs.refusal → zs.count ≡ 0 → step_c b w st zs ≡ zs
unfolding step_c delayed_all resets_all guarded_c at_visit
step_sticks b w step.Delay zs h n = rw (n, none_changed (delayed_zone w) zs.list) refl
step_sticks b w (step.Guard g) zs h n = rw (lt-ltb 0 zs.refusal h) refl
step_sticks b w (step.Resets bits visit) zs h n =
    rw (n, ne_eqb zs.refusal 0 (λ e. omega arith), none_changed (resets_zone w bits) zs.list) refl

pub steps_stick : (b : Ranges) (w : ℕ) (ss : List Step) (zs : Zones) → 0 < zs.refusal → zs.count ≡ 0 → steps_all b w ss zs ≡ zs
unfolding steps_all
steps_stick b w [] zs h n = refl
steps_stick b w (st ∷ ss) zs h n = ap (steps_all b w ss) (step_sticks b w st zs h n) ∙ steps_stick b w ss zs h n
