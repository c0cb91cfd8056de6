-- What a part comes to does not change along its tests.
use Rattle.std.specs.Prelude.{◌≡◌, List, Bool, set}
use Rattle.std.proofs.Math.Path.{refl, sym, ap, subst}
use Rattle.std.proofs.Common.{◌∙◌, add-one, true≢false}
use Rattle.std.proofs.Math.Bool.{true, false, cond}
use Prim.Native.Nat.{ℕ, zero, suc, ◌+◌, ◌-◌, ◌≤◌, ◌<◌, min}
use native.Mathlib.Omega.{arith}
use borrow.Author.Tests.{lt-ltb, le-ltb, ltb-true, ltb-false, eqb-true}
use Rattle.std.proofs.Math.Dec.{ltb, eqb}
use Rattle.expr.specs.declared.bound.Bound.{Bound}
use Rattle.expr.specs.declared.bound.Test.{Test}
use Rattle.expr.specs.declared.bound.Test.TheVariants.{Yes, No, Ask}
use Rattle.expr.specs.declared.number.Expr.{Expr}
use Rattle.expr.specs.declared.range.Ranges.{Ranges}
use Rattle.split.specs.Listed.{refused_c, list_c}
use Rattle.zones.specs.Zone.{plus_c, more_c}
use Rattle.parts.specs.Numbers.{large_halt}
use Rattle.parts.specs.Parts.{halt_of, goes_on, is_split, is_whole, with_bounds, standing, put_c, pushed_c, answered_c, halted_c, stopped_by, told_c}
use Rattle.parts.specs.Parts.{tests_in, counted_c, forward_c, with_more, yes_c, no_c}
use Rattle.split.specs.Trees.{TreeC, cut_t, keep_t, ask_t, tested_c, push_c, tight_c, tree_at, worked_c, ended_by, ended_c, meant, meant_end}
use Rattle.split.specs.Trees.{Live, Ran}
use Rattle.constrain.specs.Rules.{via_c, ask_c}
use Rattle.zones.specs.Settled.{Verdict, opposite_c, never_c, on_c, settled_c}
use Rattle.parts.specs.declared.part.Halt.{Halt}
use Rattle.parts.specs.declared.part.Halt.TheVariants as stops
use Rattle.parts.specs.declared.part.Part.{Part}
use Rattle.constrain.specs.declared.rule.Rule.{Rule}
use Rattle.zones.specs.declared.told.Told.{Told}
use Rattle.zones.specs.declared.told.Told.TheVariants as kinds
use Rattle.zones.specs.declared.zone.Zone.{Zone}
use Rattle.split.specs.declared.list.Counted.{Counted}

-- a part that goes on, is cut or is kept does not split
whole_splits_not : (h : Halt) → is_whole h ≡ true → is_split h ≡ false
whole_splits_not stops.No e = refl
whole_splits_not stops.Cut e = refl
whole_splits_not stops.Kept e = refl
whole_splits_not stops.Split e = sym e
whole_splits_not stops.Full e = refl
whole_splits_not (stops.Other n) e = refl

-- one that a verdict of another number stops does not go on
stopped_halts : (n : ℕ) → goes_on (stopped_by n) ≡ false
stopped_halts n = by (eqb n 2)
  where
    by : (t : Bool) → goes_on (cond t stops.Kept (stops.Other n)) ≡ false
    by true = refl
    by false = refl

-- a tree looks at a zone's inequalities only
worked_bounds : (b : Ranges) (t : TreeC) (k : ℕ) (z : Zone) (m : List Bound) (out : Counted)
    → worked_c b t k (with_bounds z m) out ≡ worked_c b t k z out
unfolding worked_c never_c plus_c
worked_bounds b cut_t k z m out = refl
worked_bounds b (keep_t n) k z m out = refl
worked_bounds b (ask_t e f) k z m out =
    rw (
      worked_bounds b (f false) (suc k) z m out,
      worked_bounds b (f true) (suc k) z m out,
      worked_bounds b (f true) (suc k) (plus_c z e) m out,
      worked_bounds b (f false) (suc k) (plus_c z (opposite_c e)) m (worked_c b (f true) (suc k) (plus_c z e) out),
    ) refl

-- what follows the test of a phase
unfoldable cont : Rule → ℕ → List Bound → Bool → TreeC
cont r zero new b = cond b cut_t (tight_c r new)
cont r (suc zero) new b = cond b (push_c r 25 0 new) (keep_t new)
cont r (suc (suc x)) new b = push_c r (24 - x) (suc x) (cond b (set new x (via_c r x)) new)

tree_at_lem : (r : Rule) (k : ℕ) (new : List Bound) → k < 27 → tree_at r k new ≡ tested_c (ask_c r k) (cont r k new)
unfolding tree_at cont tight_c ask_c push_c
tree_at_lem r zero new h = refl
tree_at_lem r (suc zero) new h = refl
tree_at_lem r (suc (suc x)) new h =
    subst (λ (n : ℕ). push_c r n x new ≡ tested_c (ask_c r (suc (suc x))) (cont r (suc (suc x)) new)) (left x h) refl
  where
    left : (x : ℕ) → suc (suc x) < 27 → suc (24 - x) ≡ 25 - x
    left x h = omega arith

-- ---- a part after an answer
record Answered (b : Ranges) (r : Rule) (q : Part) (t : Bool) (a : Part) : Type 0 where
  below : is_whole a.halt ≡ true
  early : goes_on a.halt ≡ true → a.phase < 27
  tests : a.tests ≡ q.tests
  later : q.phase < a.phase
  count : a.zone.count ≡ q.zone.count
  worth : (out : Counted) → meant b r a out ≡ worked_c b (cont r q.phase q.zone.bounds t) q.tests q.zone out

-- it waits for its turn, if no more tests were asked than phases are behind it
answered_live : {b : Ranges} {r : Rule} {q : Part} {t : Bool} {a : Part} → Answered b r q t a → q.tests ≤ suc q.phase → Live a
answered_live a k = record { below = a.below; early = a.early; counted = omega (arith, a.tests, a.later) }

module _ (b : Ranges) (r : Rule) where
  meant_cut : (p : Part) (out : Counted) → meant b r (standing p 27 stops.Cut) out ≡ out
  unfolding meant ended_c
  meant_cut p out = refl

  meant_kept : (p : Part) (out : Counted) → meant b r (standing p 27 stops.Kept) out ≡ list_c p.zone p.tests out
  unfolding meant ended_c
  meant_kept p out = refl

  meant_on : (p : Part) (k : ℕ) (out : Counted)
      → meant b r (standing p k stops.No) out ≡ worked_c b (tree_at r k p.zone.bounds) p.tests p.zone out
  unfolding meant
  meant_on p k out = refl

  -- the entry x put in, or not: the same inequalities
  abbrev entered : (p : Part) (x : ℕ) (t : Bool) → Part
  entered p x t = cond t (put_c p x (via_c r x)) p

  entered_count : (p : Part) (x : ℕ) (t : Bool) → (entered p x t).zone.count ≡ p.zone.count
  entered_count p x true = refl
  entered_count p x false = refl

  entered_tests : (p : Part) (x : ℕ) (t : Bool) → (entered p x t).tests ≡ p.tests
  entered_tests p x true = refl
  entered_tests p x false = refl

  cont_on : (x : ℕ) (new : List Bound) (t : Bool) → x < 24
      → tree_at r (x + 3) (cond t (set new x (via_c r x)) new) ≡ cont r (suc (suc x)) new t
  unfolding tree_at cont
  cont_on x new t l =
      let three : x + 3 ≡ suc (suc (suc x)) = omega arith in
      let less : 25 - suc x ≡ 24 - x = omega arith in
      rw (three, less) refl

  cont_last : (x : ℕ) (new : List Bound) (t : Bool) → 24 ≤ x
      → keep_t (cond t (set new x (via_c r x)) new) ≡ cont r (suc (suc x)) new t
  unfolding cont push_c
  cont_last x new t l = let none : 24 - x ≡ 0 = omega arith in rw none refl

  at_phase : (q : Part) (k : ℕ) (t : Bool) (l out : Counted) → q.phase ≡ k
      → l ≡ worked_c b (cont r k q.zone.bounds t) q.tests q.zone out
      → l ≡ worked_c b (cont r q.phase q.zone.bounds t) q.tests q.zone out
  at_phase q k t l out e h = rw e h

  on_entered : (q : Part) (x : ℕ) (t : Bool) (out : Counted)
      → worked_c b (tree_at r (x + 3) (entered q x t).zone.bounds) (entered q x t).tests (entered q x t).zone out
      ≡ worked_c b (tree_at r (x + 3) (cond t (set q.zone.bounds x (via_c r x)) q.zone.bounds)) q.tests q.zone out
  on_entered q x true out = worked_bounds b _ q.tests q.zone (set q.zone.bounds x (via_c r x)) out
  on_entered q x false out = refl

  on_worth : (q : Part) (x : ℕ) (t : Bool) → q.phase ≡ suc (suc x) → x < 24 → (out : Counted)
      → worked_c b (tree_at r (x + 3) (entered q x t).zone.bounds) (entered q x t).tests (entered q x t).zone out
      ≡ worked_c b (cont r q.phase q.zone.bounds t) q.tests q.zone out
  on_worth q x t e l out =
      at_phase q (suc (suc x)) t _ out e
      (on_entered q x t out ∙ ap (λ (tree : TreeC). worked_c b tree q.tests q.zone out) (cont_on x q.zone.bounds t l))

  kept_worth : (q : Part) (x : ℕ) (t : Bool) (out : Counted)
      → list_c (entered q x t).zone (entered q x t).tests out
      ≡ worked_c b (keep_t (cond t (set q.zone.bounds x (via_c r x)) q.zone.bounds)) q.tests q.zone out
  unfolding worked_c
  kept_worth q x true out = refl
  kept_worth q x false out = refl

  last_worth : (q : Part) (x : ℕ) (t : Bool) → q.phase ≡ suc (suc x) → 24 ≤ x → (out : Counted)
      → list_c (entered q x t).zone (entered q x t).tests out ≡ worked_c b (cont r q.phase q.zone.bounds t) q.tests q.zone out
  last_worth q x t e l out =
      at_phase q (suc (suc x)) t _ out e
      (kept_worth q x t out ∙ ap (λ (tree : TreeC). worked_c b tree q.tests q.zone out) (cont_last x q.zone.bounds t l))

  pushed_answered : (q : Part) (x : ℕ) (t : Bool) → q.phase ≡ suc (suc x) → x < 25 → Answered b r q t (pushed_c r q x t)
  unfolding pushed_c
  pushed_answered q x t e h = by (ltb x 24) refl
    where
      by : (s : Bool) → ltb x 24 ≡ s → Answered b r q t (cond s (standing (entered q x t) (x + 3) stops.No)
          (standing (entered q x t) 27 stops.Kept))
      by true k =
          let l = ltb-true x 24 k in
          record {
            below = refl;
            early = λ _. omega arith;
            tests = entered_tests q x t;
            later = omega arith;
            count = entered_count q x t;
            worth = λ out. meant_on (entered q x t) (x + 3) out ∙ on_worth q x t e l out;
          }
      by false k =
          let l = ltb-false x 24 k in
          record {
            below = refl;
            early = λ z. absurd (true≢false (sym z));
            tests = entered_tests q x t;
            later = omega arith;
            count = entered_count q x t;
            worth = λ out. meant_kept (entered q x t) out ∙ last_worth q x t e l out;
          }

  void_worth : (q : Part) → q.phase ≡ 0 → (out : Counted)
      → out ≡ worked_c b (cont r q.phase q.zone.bounds true) q.tests q.zone out
  unfolding cont worked_c
  void_worth q e out = rw e refl

  not_void_worth : (q : Part) → q.phase ≡ 0 → (out : Counted)
      → worked_c b (tree_at r 1 q.zone.bounds) q.tests q.zone out
      ≡ worked_c b (cont r q.phase q.zone.bounds false) q.tests q.zone out
  unfolding cont tree_at
  not_void_worth q e out = rw e refl

  tight_worth : (q : Part) → q.phase ≡ 1 → (out : Counted)
      → worked_c b (tree_at r 2 q.zone.bounds) q.tests q.zone out
      ≡ worked_c b (cont r q.phase q.zone.bounds true) q.tests q.zone out
  unfolding cont tree_at
  tight_worth q e out = rw e refl

  not_tight_worth : (q : Part) → q.phase ≡ 1 → (out : Counted)
      → list_c q.zone q.tests out ≡ worked_c b (cont r q.phase q.zone.bounds false) q.tests q.zone out
  unfolding cont worked_c
  not_tight_worth q e out = rw e refl

  first_answer : (q : Part) (t : Bool) → q.phase ≡ 0 → Answered b r q t (cond t (standing q 27 stops.Cut) (standing q 1 stops.No))
  first_answer q true e =
      record {
        below = refl;
        early = λ z. absurd (true≢false (sym z));
        tests = refl;
        later = omega arith;
        count = refl;
        worth = λ out. meant_cut q out ∙ void_worth q e out;
      }
  first_answer q false e =
      record {
        below = refl;
        early = λ _. omega arith;
        tests = refl;
        later = omega arith;
        count = refl;
        worth = λ out. meant_on q 1 out ∙ not_void_worth q e out;
      }

  second_answer : (q : Part) (t : Bool) → q.phase ≡ 1 → Answered b r q t (cond t (standing q 2 stops.No) (standing q 27 stops.Kept))
  second_answer q true e =
      record {
        below = refl;
        early = λ _. omega arith;
        tests = refl;
        later = omega arith;
        count = refl;
        worth = λ out. meant_on q 2 out ∙ tight_worth q e out;
      }
  second_answer q false e =
      record {
        below = refl;
        early = λ z. absurd (true≢false (sym z));
        tests = refl;
        later = omega arith;
        count = refl;
        worth = λ out. meant_kept q out ∙ not_tight_worth q e out;
      }

  answer_at : (q : Part) (k : ℕ) (t : Bool) → q.phase ≡ k → k < 27 → Answered b r q t (answered_c r q t)
  unfolding answered_c
  answer_at q zero t e h = rw (lt-ltb q.phase 1 (omega arith)) (first_answer q t e)
  answer_at q (suc zero) t e h = rw (le-ltb q.phase 1 (omega arith), lt-ltb q.phase 2 (omega arith)) (second_answer q t e)
  answer_at q (suc (suc x)) t e h =
      let two : q.phase - 2 ≡ x = omega arith in
      rw (le-ltb q.phase 1 (omega arith), le-ltb q.phase 2 (omega arith), two) (pushed_answered q x t e (omega arith))

  answer : (q : Part) (t : Bool) → q.phase < 27 → Answered b r q t (answered_c r q t)
  answer q t h = answer_at q q.phase t refl h

-- ---- a part with k tests asked
abbrev with_tests : Part → ℕ → Part
with_tests q k = record { phase = q.phase; halt = q.halt; tests = k; test = q.test; zone = q.zone }

-- ---- the two parts of a split have one inequality more
abbrev plus_part : Part → Expr → Part
plus_part p e = record { phase = p.phase; halt = stops.No; tests = p.tests; test = p.test; zone = plus_c p.zone e }

module _ (r : Rule) (p : Part) (l : p.zone.count < 24) where
  yes_is : yes_c r p ≡ answered_c r (plus_part p p.test) true
  unfolding yes_c more_c
  yes_is = rw (lt-ltb p.zone.count 24 l) refl

  no_is : no_c r p ≡ answered_c r (plus_part p (opposite_c p.test)) false
  unfolding no_c more_c
  no_is = rw (lt-ltb p.zone.count 24 l) refl

more_count : (z : Zone) (e : Expr) → z.count < 24 → (more_c z e).count ≡ suc z.count
unfolding more_c plus_c
more_count z e l = rw (lt-ltb z.count 24 l) refl

-- ---- a test on a zone
module _ (b : Ranges) (e : Expr) (f : Bool → TreeC) (k : ℕ) (z : Zone) (out : Counted) where
  ask_no : never_c b z e ≡ true → worked_c b (f false) (suc k) z out ≡ worked_c b (ask_t e f) k z out
  unfolding worked_c
  ask_no n = rw n refl

  module _ (n : never_c b z e ≡ false) where
    ask_yes : never_c b z (opposite_c e) ≡ true → worked_c b (f true) (suc k) z out ≡ worked_c b (ask_t e f) k z out
    unfolding worked_c
    ask_yes o = rw (n, o) refl

    module _ (o : never_c b z (opposite_c e) ≡ false) where
      ask_split : ltb z.count 24 ≡ true
          → worked_c b (f false) (suc k) (plus_c z (opposite_c e)) (worked_c b (f true) (suc k) (plus_c z e) out)
          ≡ worked_c b (ask_t e f) k z out
      unfolding worked_c
      ask_split l = rw (n, o, l) refl

      ask_full : ltb z.count 24 ≡ false → refused_c 8 out ≡ worked_c b (ask_t e f) k z out
      unfolding worked_c
      ask_full l = rw (n, o, l) refl

-- ---- a part on its way
-- what a part comes to, on its way or stopped
unfoldable pub reached : Ranges → Rule → Part → Counted → Counted
reached b r q out = cond (goes_on q.halt) (worked_c b (tree_at r q.phase q.zone.bounds) q.tests q.zone out) (meant_end b r q out)

pub record Going (b : Ranges) (r : Rule) (p q : Part) : Type 0 where
  pub same : (out : Counted) → reached b r q out ≡ meant b r p out
  pub later : p.phase ≤ q.phase
  pub count : q.zone.count ≡ p.zone.count
  pub early : goes_on q.halt ≡ true → q.phase < 27
  pub counted : goes_on q.halt ≡ true → q.tests ≤ q.phase
  pub splits : is_split q.halt ≡ true → (q.phase < 27) × (q.zone.count < 24) × (q.tests ≤ suc q.phase)

-- what is left of the way
abbrev pub left : Part → ℕ
left q = cond (goes_on q.halt) (28 - q.phase) 0

module _ (b : Ranges) (r : Rule) where
  live_reached : (a : Part) → Live a → (out : Counted) → reached b r a out ≡ meant b r a out
  unfolding reached meant meant_end
  live_reached a l out = by (goes_on a.halt) refl
    where
      by : (t : Bool) → goes_on a.halt ≡ t
          → cond t (worked_c b (tree_at r a.phase a.zone.bounds) a.tests a.zone out)
          (cond (is_split a.halt) (meant b r (no_c r a) (meant b r (yes_c r a) out)) (ended_c a out))
          ≡ cond t (worked_c b (tree_at r a.phase a.zone.bounds) a.tests a.zone out) (ended_c a out)
      by true h = refl
      by false h = rw (whole_splits_not a.halt l.below) refl

  pub going_starts : (p : Part) → Live p → Going b r p p
  going_starts p l =
      record {
        same = live_reached p l;
        later = omega arith;
        count = refl;
        early = l.early;
        counted = λ _. l.counted;
        splits = λ e. absurd (true≢false (sym e ∙ whole_splits_not p.halt l.below));
      }

  pub going_ends : (p q : Part) → Going b r p q → goes_on q.halt ≡ false → Ran b r p q
  unfolding reached
  going_ends p q g h =
      record {
        stopped = h;
        same =
            λ out.
            subst
            (λ (t : Bool).
            cond t (worked_c b (tree_at r q.phase q.zone.bounds) q.tests q.zone out) (meant_end b r q out) ≡ meant b r p out)
            h (g.same out);
        later = g.later;
        count = g.count;
        splits = g.splits;
      }

  module _ (p q : Part) (g : Going b r p q) (h : goes_on q.halt ≡ true) where
    -- what follows its test
    f : Bool → TreeC
    f = cont r q.phase q.zone.bounds

    -- what is to come of it
    abbrev Worth : TreeC → ℕ → Type 0
    Worth t k = (out : Counted) → worked_c b t k q.zone out ≡ meant b r p out

    here : Worth (tested_c (ask_c r q.phase) f) q.tests
    unfolding reached f
    here out =
        subst (λ (t : TreeC). worked_c b t q.tests q.zone out ≡ meant b r p out) (tree_at_lem r q.phase q.zone.bounds (g.early h))
        (subst
        (λ (t : Bool).
        cond t (worked_c b (tree_at r q.phase q.zone.bounds) q.tests q.zone out) (meant_end b r q out) ≡ meant b r p out)
        h (g.same out))

    -- with k tests asked
    abbrev at : ℕ → Part
    at k = with_tests q k

    module _ (k : ℕ) (few : k ≤ suc q.phase) where
      -- the test is settled by t
      answered_going : (t : Bool) → Worth (f t) k → Going b r p (answered_c r (at k) t)
      unfolding f
      answered_going t w =
          let a = answer b r (at k) t (g.early h) in
          let live = answered_live a few in
          record {
            same = λ out. live_reached (answered_c r (at k) t) live out ∙ a.worth out ∙ w out;
            later = omega (arith, a.later, g.later);
            count = a.count ∙ g.count;
            early = a.early;
            counted = λ _. live.counted;
            splits = λ e. absurd (true≢false (sym e ∙ whole_splits_not (answered_c r (at k) t).halt a.below));
          }

      split_same : (e : Expr) → q.zone.count < 24 → (out : Counted)
          → worked_c b (f false) k (plus_c q.zone (opposite_c e)) (worked_c b (f true) k (plus_c q.zone e) out) ≡ meant b r p out
          → reached b r (halted_c (at k) stops.Split e) out ≡ meant b r p out
      unfolding reached meant_end plus_c f
      split_same e l out w =
          let s = halted_c (at k) stops.Split e in
          let y = answer b r (plus_part s e) true (g.early h) in
          let n = answer b r (plus_part s (opposite_c e)) false (g.early h) in
          ap (λ (a : Part). meant b r (no_c r s) (meant b r a out)) (yes_is r s l)
          ∙ ap (λ (a : Part). meant b r a (meant b r (answered_c r (plus_part s e) true) out)) (no_is r s l)
          ∙ n.worth (meant b r (answered_c r (plus_part s e) true) out)
          ∙ ap (worked_c b (cont r q.phase q.zone.bounds false) k (plus_c q.zone (opposite_c e))) (y.worth out) ∙ w

      halted_going : (halt : Halt) (e : Expr) → goes_on halt ≡ false → (is_split halt ≡ true → q.zone.count < 24)
          → ((out : Counted) → reached b r (halted_c (at k) halt e) out ≡ meant b r p out) → Going b r p (halted_c (at k) halt e)
      halted_going halt e i l w =
          record {
            same = w;
            later = g.later;
            count = g.count;
            early = λ z. absurd (true≢false (sym z ∙ i));
            counted = λ z. absurd (true≢false (sym z ∙ i));
            splits = λ z. (g.early h, l z, few);
          }

      refused_same : (n : ℕ) (e : Expr) → 4 ≤ n → (out : Counted) → refused_c n out ≡ meant b r p out
          → reached b r (halted_c (at k) (halt_of n) e) out ≡ meant b r p out
      unfolding reached meant_end ended_c
      refused_same n e i out w =
          ap (λ (h : Halt). reached b r (halted_c (at k) h e) out) (large_halt n i) ∙ by (eqb n 8) refl
        where
          by : (t : Bool) → eqb n 8 ≡ t → reached b r (halted_c (at k) (cond t stops.Full (stops.Other n)) e) out ≡ meant b r p out
          by true s = ap (λ (m : ℕ). refused_c m out) (sym (eqb-true n 8 s)) ∙ w
          by false s = rw (le-ltb n 4 i) w

      -- the verdicts
      by_kind : Verdict → Part
      by_kind v = told_c r (at k) v.test v.kind

    few_now : q.tests ≤ suc q.phase
    few_now = omega (arith, g.counted h)

    few_next : suc q.tests ≤ suc q.phase
    few_next = omega (arith, g.counted h)

    by_ask : (e : Expr) → ask_c r q.phase ≡ Ask e
        → Going b r p (by_kind (suc q.tests) few_next (on_c b q.zone e))
    unfolding by_kind on_c tested_c
    by_ask e a = first (never_c b q.zone e) refl
      where
        k : ℕ
        k = suc q.tests

        worth : Worth (ask_t e f) q.tests
        worth out = subst (λ (t : Test). worked_c b (tested_c t f) q.tests q.zone out ≡ meant b r p out) a (here out)

        third : (t : Bool) → ltb q.zone.count 24 ≡ t → never_c b q.zone e ≡ false → never_c b q.zone (opposite_c e) ≡ false
            → Going b r p (by_kind k few_next (cond t (record { kind = kinds.Split; test = e }) (record { kind = kinds.Full; test = e })))
        third true l n o =
            halted_going k few_next stops.Split e refl (λ _. ltb-true q.zone.count 24 l)
            (λ out. split_same k few_next e (ltb-true q.zone.count 24 l) out
            (ask_split b e f q.tests q.zone out n o l ∙ worth out))
        third false l n o =
            halted_going k few_next stops.Full e refl (λ z. absurd (true≢false (sym z)))
            (λ out. refused_same k few_next 8 e (omega arith) out
            (ask_full b e f q.tests q.zone out n o l ∙ worth out))

        second : (t : Bool) → never_c b q.zone (opposite_c e) ≡ t → never_c b q.zone e ≡ false
            → Going b r p
            (by_kind k few_next
            (cond t (record { kind = kinds.Yes; test = e })
            (cond (ltb q.zone.count 24) (record { kind = kinds.Split; test = e }) (record { kind = kinds.Full; test = e }))))
        second true o n = answered_going k few_next true (λ out. ask_yes b e f q.tests q.zone out n o ∙ worth out)
        second false o n = third (ltb q.zone.count 24) refl n o

        first : (t : Bool) → never_c b q.zone e ≡ t
            → Going b r p
            (by_kind k few_next
            (cond t (record { kind = kinds.No; test = e })
            (cond (never_c b q.zone (opposite_c e)) (record { kind = kinds.Yes; test = e })
            (cond (ltb q.zone.count 24) (record { kind = kinds.Split; test = e }) (record { kind = kinds.Full; test = e })))))
        first true n = answered_going k few_next false (λ out. ask_no b e f q.tests q.zone out n ∙ worth out)
        first false n = second (never_c b q.zone (opposite_c e)) refl n

    -- one that goes on has asked 26 tests at most
    counted_is : (t : Test) → counted_c q t ≡ at (q.tests + tests_in t)
    unfolding counted_c
    counted_is t =
        let m : min q.tests 26 ≡ q.tests = omega (arith, g.counted h, g.early h) in
        ap (λ (n : ℕ). at (n + tests_in t)) m

    -- what a test that is no question comes to
    told : (t : Test) → ask_c r q.phase ≡ t → Worth (tested_c t f) q.tests
    told t a out = subst (λ (x : Test). worked_c b (tested_c x f) q.tests q.zone out ≡ meant b r p out) a (here out)

    -- the part after its test
    abbrev after : Test → Part → Part
    after t c =
        let v = settled_c b q.zone t in
        told_c r c v.test v.kind

    -- no test more
    as_before : (P : ℕ → Type 0) → P q.tests → P (q.tests + 0)
    as_before P h = let none : q.tests + 0 ≡ q.tests = omega arith in rw none h

    by_test : (t : Test) → ask_c r q.phase ≡ t → Going b r p (after t (at (q.tests + tests_in t)))
    unfolding by_kind tested_c worked_c
    by_test Yes a = as_before (λ k. Going b r p (after Yes (at k))) (answered_going q.tests few_now true (told Yes a))
    by_test No a = as_before (λ k. Going b r p (after No (at k))) (answered_going q.tests few_now false (told No a))
    by_test (Ask e) a = rw (add-one q.tests) (by_ask e a)

    pub forward_going : Going b r p (forward_c b r q)
    unfolding forward_c
    forward_going =
        subst (λ (c : Part). Going b r p (after (ask_c r q.phase) c)) (sym (counted_is (ask_c r q.phase)))
        (by_test (ask_c r q.phase) refl)

-- ---- the way gets shorter
module _ (b : Ranges) (r : Rule) (p q : Part) (g : Going b r p q) (h : goes_on q.halt ≡ true) where
  left_now : left q ≡ 28 - q.phase
  left_now = rw h refl

  answered_less : (c : Part) (t : Bool) → c.phase ≡ q.phase → left (answered_c r c t) < left q
  answered_less c t e =
      let a = answer b r c t (omega (arith, g.early h)) in
      rw left_now (by (goes_on (answered_c r c t).halt) (omega (arith, a.later)))
    where
      by : (s : Bool) → q.phase < (answered_c r c t).phase → cond s (28 - (answered_c r c t).phase) 0 < 28 - q.phase
      by true l = omega (arith, g.early h)
      by false l = omega (arith, g.early h)

  halted_less : (c : Part) (halt : Halt) (e : Expr) → goes_on halt ≡ false → left (halted_c c halt e) < left q
  halted_less c halt e k = rw (left_now, k) (omega (arith, g.early h))

  pub left_less : left (forward_c b r q) < left q
  unfolding forward_c counted_c
  left_less = by v.kind
    where
      v : Verdict
      v = settled_c b q.zone (ask_c r q.phase)

      c : Part
      c = counted_c q (ask_c r q.phase)

      by : (k : Told) → left (told_c r c v.test k) < left q
      by kinds.No = answered_less c false refl
      by kinds.Yes = answered_less c true refl
      by kinds.Split = halted_less c stops.Split v.test refl
      by kinds.Full = halted_less c stops.Full v.test refl
      by (kinds.Other n) = halted_less c (stopped_by n) v.test (stopped_halts n)

-- ---- the two parts of a split, and a part that has stopped
module _ (b : Ranges) (r : Rule) (q : Part) (h : q.phase < 27) where
  pub yes_live : q.tests ≤ suc q.phase → Live (yes_c r q)
  unfolding yes_c
  yes_live k = answered_live (answer b r (with_more q q.test) true h) k

  pub yes_later : q.phase < (yes_c r q).phase
  unfolding yes_c
  yes_later = (answer b r (with_more q q.test) true h).later

  pub yes_count : q.zone.count < 24 → (yes_c r q).zone.count ≡ suc q.zone.count
  unfolding yes_c
  yes_count l = (answer b r (with_more q q.test) true h).count ∙ more_count q.zone q.test l

  pub no_live : q.tests ≤ suc q.phase → Live (no_c r q)
  unfolding no_c
  no_live k = answered_live (answer b r (with_more q (opposite_c q.test)) false h) k

  pub no_later : q.phase < (no_c r q).phase
  unfolding no_c
  no_later = (answer b r (with_more q (opposite_c q.test)) false h).later

  pub no_count : q.zone.count < 24 → (no_c r q).zone.count ≡ suc q.zone.count
  unfolding no_c
  no_count l = (answer b r (with_more q (opposite_c q.test)) false h).count ∙ more_count q.zone (opposite_c q.test) l

module _ (b : Ranges) (r : Rule) (p q : Part) (g : Ran b r p q) (out : Counted) where
  pub ran_ended : is_split q.halt ≡ false → meant b r p out ≡ ended_c q out
  unfolding meant_end
  ran_ended h =
      sym
      (subst (λ (t : Bool). cond t (meant b r (no_c r q) (meant b r (yes_c r q) out)) (ended_c q out) ≡ meant b r p out)
      h (g.same out))

  pub ran_split : is_split q.halt ≡ true → meant b r p out ≡ meant b r (no_c r q) (meant b r (yes_c r q) out)
  unfolding meant_end
  ran_split h =
      sym
      (subst (λ (t : Bool). cond t (meant b r (no_c r q) (meant b r (yes_c r q) out)) (ended_c q out) ≡ meant b r p out)
      h (g.same out))

pub split_leaves : (q : Part) (out : Counted) → is_split q.halt ≡ true → ended_c q out ≡ out
unfolding ended_c
split_leaves q out h = by q.halt h
  where
    by : (k : Halt) → is_split k ≡ true → ended_by k q out ≡ out
    by stops.No h = refl
    by stops.Cut h = refl
    by stops.Kept h = absurd (true≢false (sym h))
    by stops.Split h = refl
    by stops.Full h = absurd (true≢false (sym h))
    by (stops.Other n) h = absurd (true≢false (sym h))
