-- A test that fails at its best, and a guard whose first two tests fail.
use mathlib.Core.Path.{◌≡◌, refl, sym, ap, ◌∙◌}
use mathlib.Core.Bool.{Bool, true, false, cond}
use mathlib.Core.List.{List, [], ◌∷◌, ◌++◌, map}
use mathlib.Core.Option.{none}
use Prim.Native.Nat.{ℕ, suc, ◌+◌, ◌*◌, ◌<◌, min}
use native.Mathlib.Omega.{arith}
use borrow.Author.Tests.{lt-ltb}
use lib.Dec.{ltb}
use lib.IntN.{ℤ, pos, ◌+ℤ◌}
use lib.ListN.{length, get_or, take}
use lib.Signed.{le_z, ◌≤ℤ◌, ◌<ℤ◌}
use Rattle.integer.specs.Apart.{apart}
use Rattle.integer.specs.Bools.{and_left, and_right}
use Rattle.integer.specs.Order.{le_z_true}
use Rattle.integer.specs.Split.{split, split-all}
use Rattle.constrain.specs.RuleLaws.{read_c}
use Rattle.constrain.specs.Rules.{inside_c, sum_c, tighter_c, void_test, tight_test}
use Rattle.constrain.specs.declared.rule.Rule.{Rule}
use Rattle.expr.specs.Affine.{Affine, value, dot}
use Rattle.expr.specs.RecordLaws.{inside_any}
use Rattle.expr.specs.Records.{affine, no_bound, zero_bound, range_list}
use Rattle.expr.specs.declared.bound.Bound.{Bound}
use Rattle.expr.specs.declared.bound.Test.{Test}
use Rattle.expr.specs.declared.bound.Test.TheVariants.{Yes, No, Ask}
use Rattle.expr.specs.declared.number.Expr.{Expr}
use Rattle.expr.specs.declared.range.Range.{Range}
use Rattle.expr.specs.declared.range.Ranges.{Ranges}
use Rattle.guards.specs.declared.Guard.{Guard}
use Rattle.narrowing.specs.Best.{best_sum, best_of, best_sum_most}
use Rattle.passing.specs.Laws.{pass_one}
use Rattle.systems.specs.BoxLaws.{first_nothing, first_in_narrower}
use Rattle.valuations.specs.Valuations.{satisfies, first}
use Rattle.split.specs.Guarded.{rule_c}
use Rattle.split.specs.Listed.{list_c}
use Rattle.split.specs.Trees.{TreeC, cut_t, keep_t, tested_c, push_c, tight_c, tree_at, worked_c, meant}
use Rattle.split.specs.declared.list.Counted.{Counted}
use Rattle.steps.specs.Steps.{asks_c, guard_of_c, asks_clocks, part_c}
use Rattle.steps.specs.declared.step.Step.{Step}
use Rattle.zones.specs.Hinted.{Hinted}
use Rattle.zones.specs.Put.{map_last}
use Rattle.zones.specs.Settled.{Verdict, is_none, never_c, opposite_c, on_c, settled_c}
use Rattle.zones.specs.declared.hint.Hint.{Hint}
use Rattle.zones.specs.declared.told.Told.TheVariants as kinds
use Rattle.zones.specs.declared.zone.Zone.{Zone}
use Rattle.idle.specs.Idle.{Fails, Idle}

-- what is read inside a matrix
pub read_in : (m : List Bound) (k : ℕ) → k < 25 → read_c m k ≡ get_or m k no_bound
unfolding inside_c
read_in m k h = let few : min k 24 ≡ k = omega arith in rw (lt-ltb k 25 h, few) refl

-- ---- the last of some inequalities
not_true : (b : Bool) → (b ≡ true → ⊥) → b ≡ false
not_true true h = absurd (h refl)
not_true false h = refl

last_met : (es : List Affine) (e : Affine) (v : List ℤ) → satisfies (es ++ e ∷ []) v ≡ true → le_z (pos 0) (value e v) ≡ true
unfolding satisfies
last_met [] e v h = and_left (le_z (pos 0) (value e v)) true h
last_met (d ∷ es) e v h = last_met es e v (and_right (le_z (pos 0) (value d v)) (satisfies (es ++ e ∷ []) v) h)

last_fails : (es : List Affine) (e : Affine) (rs : List Range) → best_of e rs <ℤ pos 0 → first rs (es ++ e ∷ []) ≡ none
unfolding best_of value
last_fails es e rs g =
    first_nothing rs (es ++ e ∷ []) (λ v i. not_true (satisfies (es ++ e ∷ []) v)
    (λ m. below (dot e.coefs v) (best_sum e.coefs rs) e.constant (best_sum_most e.coefs v rs i)
    (le_z_true (last_met es e v m)) g))
  where
    below : (d s c : ℤ) → d ≤ℤ s → pos 0 ≤ℤ (c +ℤ d) → (c +ℤ s) <ℤ pos 0 → ⊥
    below d s c = rw (split d, split s, split c) (simp split-all (omega arith))

never_best : (h : Hint) (e : Expr) → best_of (affine e) (range_list h.ranges) <ℤ pos 0 → (b : Ranges) (z : Zone) → Hinted b z h
    → never_c b z e ≡ true
unfolding never_c
never_best h e g b z n =
    let xs = take z.count z.ineqs in
    ap is_none
    (ap (first (range_list b)) (map_last xs e)
    ∙ sym (first_in_narrower (map affine xs) (affine e ∷ []) (range_list b) (range_list h.ranges) n.narrows)
    ∙ last_fails (map affine xs) (affine e) (range_list h.ranges) g)

pub fails_best : (h : Hint) (t : Test) (e : Expr) → t ≡ Ask e → best_of (affine e) (range_list h.ranges) <ℤ pos 0 → Fails h t
unfolding on_c
fails_best h t e a g b z n = rw (a, never_best h e g b z n) refl

pub fails_no : (h : Hint) (t : Test) → t ≡ No → Fails h t
fails_no h t a b z n = rw a refl

-- ---- a test that fails leads on
no_side : (v w x y : Verdict) (r s t : Bool) → v.kind ≡ kinds.No → w.kind ≡ kinds.Yes → x.kind ≡ kinds.Split
    → y.kind ≡ kinds.Full
    → (cond r v (cond s w (cond t x y))).kind ≡ kinds.No → r ≡ true
no_side v w x y true s t hv hw hx hy h = refl
no_side v w x y false true t hv hw hx hy h = apart cc
no_side v w x y false false true hv hw hx hy h = apart cc
no_side v w x y false false false hv hw hx hy h = apart cc

never_told : (b : Ranges) (z : Zone) (e : Expr) → (on_c b z e).kind ≡ kinds.No → never_c b z e ≡ true
unfolding on_c
never_told b z e h = no_side _ _ _ _ (never_c b z e) (never_c b z (opposite_c e)) (ltb z.count 24) refl refl refl refl h

leads : (b : Ranges) (z : Zone) (t : Test) (f : Bool → TreeC) (k : ℕ) → (settled_c b z t).kind ≡ kinds.No
    → (n : ℕ) × ((out : Counted) → worked_c b (tested_c t f) k z out ≡ worked_c b (f false) n z out)
unfolding tested_c worked_c
leads b z Yes f k h = apart cc
leads b z No f k h = (k, λ out. refl)
leads b z (Ask e) f k h = (suc k, λ out. rw (never_told b z e h) refl)

-- ---- a guard whose first two tests fail
module _ (b : Ranges) (w : ℕ) (st : Step) (z : Zone) where
  abbrev r : Rule
  r = rule_c w (guard_of_c st) z

  starts : asks_c st ≡ true → (out : Counted) → pass_one b w st z out ≡ worked_c b (tree_at r 0 z.bounds) 0 z out
  unfolding part_c meant
  starts a out = rw a refl

  tight_leads : (k : ℕ) → (settled_c b z (tight_test r)).kind ≡ kinds.No
      → (n : ℕ) × ((out : Counted) → worked_c b (tight_c r z.bounds) k z out ≡ list_c z n out)
  unfolding tight_c worked_c
  tight_leads k h = leads b z (tight_test r) (λ t. cond t (push_c r 25 0 z.bounds) (keep_t z.bounds)) k h

  void_leads : (settled_c b z (void_test r)).kind ≡ kinds.No
      → (n : ℕ) × ((out : Counted) → worked_c b (tree_at r 0 z.bounds) 0 z out ≡ worked_c b (tight_c r z.bounds) n z out)
  unfolding tree_at
  void_leads h = leads b z (void_test r) (λ t. cond t cut_t (tight_c r z.bounds)) 0 h

  leaves : asks_c st ≡ true → (settled_c b z (void_test r)).kind ≡ kinds.No → (settled_c b z (tight_test r)).kind ≡ kinds.No → Idle b w st z
  leaves a h g =
      let first = void_leads h in
      let second = tight_leads first.0 g in
      record { tests = second.0; same = λ out. starts a out ∙ first.1 out ∙ second.1 out }

module _ (h : Hint) (st : Step) (z : Zone) (a : asks_c st ≡ true) (long : length z.bounds ≡ 25) where
  abbrev g : Guard
  g = guard_of_c st

  read : (i j : ℕ) → i < 5 → j < 5 → get_or z.bounds (5 * i + j) no_bound ≡ get_or z.bounds (5 * i + j) zero_bound
  read i j p q = inside_any z.bounds (5 * i + j) no_bound zero_bound (omega (arith, long))

  few : (g.left < 5) × (g.right < 5)
  few = asks_clocks st a

  void_is : (w : ℕ) → tighter_c (sum_c g.bound (get_or z.bounds (5 * g.right + g.left) no_bound)) zero_bound
      ≡ void_test (rule_c w g z)
  unfolding void_test
  void_is w = ap (λ (x : Bound). tighter_c (sum_c g.bound x) zero_bound) (read g.right g.left few.1 few.0)

  tight_is : (w : ℕ) → tighter_c g.bound (get_or z.bounds (5 * g.left + g.right) no_bound)
      ≡ tight_test (rule_c w g z)
  unfolding tight_test
  tight_is w = ap (tighter_c g.bound) (read g.left g.right few.0 few.1)

  pub idle_is : (guard : Guard) → guard ≡ g → (left right : ℕ) → left ≡ guard.left → right ≡ guard.right → (t u : Test)
      → t ≡ tighter_c (sum_c guard.bound (get_or z.bounds (5 * right + left) no_bound)) zero_bound
      → u ≡ tighter_c guard.bound (get_or z.bounds (5 * left + right) no_bound)
      → Fails h t → Fails h u → (b : Ranges) → Hinted b z h → (w : ℕ) → Idle b w st z
  idle_is guard hg left right hl hr t u ht hu ft fu b n w =
      let void : t ≡ tighter_c (sum_c g.bound (get_or z.bounds (5 * g.right + g.left) no_bound)) zero_bound = rw (hl, hr, hg) at ht in
      let tight : u ≡ tighter_c g.bound (get_or z.bounds (5 * g.left + g.right) no_bound) = rw (hl, hr, hg) at hu in
      leaves b w st z a
      (ap (λ (x : Test). (settled_c b z x).kind) (sym (void_is w) ∙ sym void) ∙ ft b z n)
      (ap (λ (x : Test). (settled_c b z x).kind) (sym (tight_is w) ∙ sym tight) ∙ fu b z n)
