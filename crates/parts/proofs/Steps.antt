-- The cases of the code's steps, with the branches' tests.
use mathlib.Core.Path.{◌≡◌, refl, sym, ap, ◌∙◌}
use mathlib.Core.List.{List}
use mathlib.Core.Bool.{Bool, true, false, cond}
use Prim.Native.Nat.{ℕ, suc, ◌+◌, ◌-◌, ◌≤◌, ◌<◌, min}
use native.Mathlib.Omega.{arith}
use borrow.Author.Tests.{lt-ltb, le-ltb}
use lib.ListN.{length}
use lib.Seq.{set_out}
use Rattle.expr.specs.declared.bound.Bound.{Bound}
use Rattle.expr.specs.declared.bound.Test.{Test}
use Rattle.expr.specs.declared.bound.Test.TheVariants.{Yes, No, Ask}
use Rattle.expr.specs.declared.number.Expr.{Expr}
use Rattle.parts.specs.Parts.{pushed_c, answered_c, standing, put_c, with_bounds, tests_in, next, settled_n, after_c, enters_c}
use Rattle.parts.specs.Parts.{question_c, turn_c}
use Rattle.constrain.specs.RuleLaws.{read_c, sum_is}
use Rattle.constrain.specs.Rules.{sum_c, places_at, via_c}
use Rattle.constrain.specs.declared.rule.Reads.{Reads}
use Rattle.parts.specs.declared.part.Halt.TheVariants as stops
use Rattle.parts.specs.declared.part.Next.{Next}
use Rattle.parts.specs.declared.part.Part.{Part}
use Rattle.constrain.specs.declared.rule.Rule.{Rule}
use Rattle.zones.specs.Settled.{told_settled, told_yes}
use Rattle.zones.specs.declared.told.Told.{Told}

-- ---- an entry put in
put_past : (p : Part) (x : ℕ) (b : Bound) → length p.zone.bounds ≤ x → p ≡ put_c p x b
put_past p x b h =
    ap
    (λ (l : List Bound).
    record { phase = p.phase; halt = p.halt; tests = p.tests; test = p.test; zone = with_bounds p.zone l })
    (sym (set_out p.zone.bounds x b h))

-- ---- parts
pub entered_yes : (r : Rule) (p : Part) (x : ℕ) (b : Bool) (via : Bound) (q : Part) → b ≡ true → via ≡ via_c r x
    → q ≡ put_c p x via → q ≡ cond b (put_c p x (via_c r x)) p
entered_yes r p x b via q h e k = rw h (k ∙ ap (λ (v : Bound). put_c p x v) e)

pub entered_past : (r : Rule) (p : Part) (x : ℕ) (b : Bool) → b ≡ true → length p.zone.bounds ≤ x → p ≡ cond b (put_c p x (via_c r x)) p
entered_past r p x b h g = rw h (put_past p x (via_c r x) g)

pub entered_no : (p a : Part) (b : Bool) → b ≡ false → p ≡ cond b a p
entered_no p a b h = rw h refl

module _ (r : Rule) (p : Part) (x : ℕ) (b : Bool) (q : Part) (hq : q ≡ cond b (put_c p x (via_c r x)) p) where
  pub pushed_on : x < 24 → standing q (x + 3) stops.No ≡ pushed_c r p x b
  unfolding pushed_c
  pushed_on h = rw (lt-ltb x 24 h) (ap (λ (a : Part). standing a (x + 3) stops.No) hq)

  pub pushed_last : 24 ≤ x → standing q 27 stops.Kept ≡ pushed_c r p x b
  unfolding pushed_c
  pushed_last h = rw (le-ltb x 24 h) (ap (λ (a : Part). standing a 27 stops.Kept) hq)

module _ (r : Rule) (p : Part) (b : Bool) where
  module _ (h : p.phase < 1) where
    pub void_yes : b ≡ true → standing p 27 stops.Cut ≡ answered_c r p b
    unfolding answered_c
    void_yes e = rw (lt-ltb p.phase 1 h, e) refl

    pub void_no : b ≡ false → standing p 1 stops.No ≡ answered_c r p b
    unfolding answered_c
    void_no e = rw (lt-ltb p.phase 1 h, e) refl

  module _ (h : 1 ≤ p.phase) where
    module _ (k : p.phase < 2) where
      pub tight_yes : b ≡ true → standing p 2 stops.No ≡ answered_c r p b
      unfolding answered_c
      tight_yes e = rw (le-ltb p.phase 1 h, lt-ltb p.phase 2 k, e) refl

      pub tight_no : b ≡ false → standing p 27 stops.Kept ≡ answered_c r p b
      unfolding answered_c
      tight_no e = rw (le-ltb p.phase 1 h, lt-ltb p.phase 2 k, e) refl

    pub push_answer : 2 ≤ p.phase → pushed_c r p (p.phase - 2) b ≡ answered_c r p b
    unfolding answered_c
    push_answer k = rw (le-ltb p.phase 1 h, le-ltb p.phase 2 k) refl

-- the sum, call by call
pub via_by : (r : Rule) → length r.old ≡ 25 → (x : ℕ) (at : Reads) → at ≡ places_at r.left r.right (x + 2)
    → (f s l t : Bound) → f ≡ read_c r.old at.first → s ≡ sum_c f r.bound → l ≡ read_c r.old at.last → t ≡ sum_c s l
    → t ≡ via_c r x
via_by r long x at q f s l t hf hs hl ht =
    let two : x + 2 ≡ suc (suc x) = omega arith in
    let here : at ≡ places_at r.left r.right (suc (suc x)) = q ∙ ap (places_at r.left r.right) two in
    ht
    ∙ ap (λ (y : Bound). sum_c y l) (hs ∙ ap (λ (y : Bound). sum_c y r.bound) (hf ∙ ap (λ (y : Reads). read_c r.old y.first) here))
    ∙ ap (sum_c (sum_c (read_c r.old (places_at r.left r.right (suc (suc x))).first) r.bound))
    (hl ∙ ap (λ (y : Reads). read_c r.old y.last) here)
    ∙ sum_is r long x

-- ---- the phase after an answer
module _ (phase : ℕ) (yes : Bool) where
  module _ (g : phase < 1) where
    pub after_void_yes : yes ≡ true → next 27 stops.Cut ≡ settled_n phase yes
    after_void_yes k = rw (lt-ltb phase 1 g, k) refl

    pub after_void_no : yes ≡ false → next 1 stops.No ≡ settled_n phase yes
    after_void_no k = rw (lt-ltb phase 1 g, k) refl

  module _ (g : 1 ≤ phase) where
    module _ (l : phase < 2) where
      pub after_tight_yes : yes ≡ true → next 2 stops.No ≡ settled_n phase yes
      after_tight_yes k = rw (le-ltb phase 1 g, lt-ltb phase 2 l, k) refl

      pub after_tight_no : yes ≡ false → next 27 stops.Kept ≡ settled_n phase yes
      after_tight_no k = rw (le-ltb phase 1 g, lt-ltb phase 2 l, k) refl

    module _ (l : 2 ≤ phase) where
      pub after_entry : phase < 26 → next (phase + 1) stops.No ≡ settled_n phase yes
      after_entry k = rw (le-ltb phase 1 g, le-ltb phase 2 l, lt-ltb phase 26 k) refl

      pub after_last : 26 ≤ phase → next 27 stops.Kept ≡ settled_n phase yes
      after_last k = rw (le-ltb phase 1 g, le-ltb phase 2 l, le-ltb phase 26 k) refl

-- the entry, and the question
module _ (phase : ℕ) (kind : Told) (a b : Bound) where
  pub enters_yes : 1 < phase → told_yes kind ≡ true → a ≡ cond (enters_c phase kind) a b
  unfolding enters_c
  enters_yes h k = rw (lt-ltb 1 phase h, k) refl

  pub enters_no : 1 < phase → told_yes kind ≡ false → b ≡ cond (enters_c phase kind) a b
  unfolding enters_c
  enters_no h k = rw (lt-ltb 1 phase h, k) refl

  pub enters_not : phase ≤ 1 → b ≡ cond (enters_c phase kind) a b
  unfolding enters_c
  enters_not h = rw (le-ltb 1 phase h) refl

pub tests_few : (t : Test) → tests_in t ≤ 1
tests_few Yes = omega arith
tests_few No = omega arith
tests_few (Ask e) = omega arith

-- a turn, call by call
pub turn_is : (phase tests : ℕ) (test : Expr) (was : Bound) (t : Test) (via : Bound) (kind : Told) (n : Next) → n ≡ after_c phase kind
    → (m : ℕ) → m ≡ min tests 26 → (k : ℕ) → k ≡ tests_in t → (e : Expr) → e ≡ cond (told_settled kind) test (question_c t)
    → (b : Bound) → b ≡ cond (enters_c phase kind) via was
    → record { phase = n.phase; halt = n.halt; tests = m + k; test = e; entry = b } ≡ turn_c phase tests test was t via kind
unfolding turn_c
turn_is phase tests test was t via kind n hn m hm k hk e he b hb = rw (hn, hm, hk, he, hb) refl
