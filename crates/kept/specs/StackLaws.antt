-- A step keeps what the stack and the zones still to come hold together.
use Rattle.std.specs.Prelude.{◌≡◌, Bool, cond, ◌⊎◌, List, [], ◌∷◌, ℕ, zero, suc, ◌+◌, ◌-◌, ◌*◌, ◌≤◌, ◌<◌, eqb, ℤ, length, get_or, set}
use Rattle.std.specs.Prelude.{take, drop}
use Rattle.std.proofs.Math.Path.{refl}
use Rattle.std.proofs.Common.{sym, ap, ◌∙◌, inl, inr, add-one, arith, length-take, length-set, drop_of_length-le, drop-cons, get_or-take}
use Rattle.std.proofs.Common.{get_or-set_same, get_or-set_other}
use Rattle.std.proofs.Math.Bool.{true, false}
use Rattle.std.proofs.Math.Dec.{ltb}
use borrow.Author.Tests.{lt-ltb, le-ltb, ltb-true, ltb-false, eqb-true, eqb-false}
use Rattle.expr.specs.Records.{range_list}
use Rattle.expr.specs.declared.range.Ranges.{Ranges}
use Rattle.cells.specs.Cells.{rows_from}
use Rattle.siblings.specs.Siblings.{Siblings, first_of}
use Rattle.valuations.specs.Valuations.{count}
use Rattle.zones.specs.declared.zone.Zone.{Zone}
use Rattle.kept.specs.Stacks.{held_in, no_item, no_zone, held_by_item, held_on, top_of, top_if, top_by, join_of, push_of, pass_of, step_of}
use Rattle.kept.specs.Stacks.{zones_in, zones_at_lem}
use Rattle.kept.specs.declared.stack.Item.{Item}
use Rattle.kept.specs.declared.stack.Stack.{Stack}
use Rattle.kept.specs.declared.stack.Top.{Top}

-- ---- what the first k items hold
on_step : (b : Ranges) (zs : List Zone) (l : List Item) (k : ℕ)
    → held_on b zs l (suc k) ≡ held_on b zs l k + held_by_item b zs (get_or l k no_item)
unfolding held_on
on_step b zs l k = refl

on_none : (b : Ranges) (zs : List Zone) (l : List Item) → held_on b zs l 0 ≡ 0
unfolding held_on
on_none b zs l = refl

on_above : (b : Ranges) (zs : List Zone) (l : List Item) (k j : ℕ) (q : Item) → k ≤ j → held_on b zs (set l j q) k ≡ held_on b zs l k
unfolding held_on
on_above b zs l zero j q h = refl
on_above b zs l (suc k) j q h =
    rw (on_above b zs l k j q (omega arith), get_or-set_other l j k q no_item (λ e. omega arith)) refl

on_set : (b : Ranges) (zs : List Zone) (l : List Item) (k : ℕ) (q : Item) → k < length l
    → held_on b zs (set l k q) (suc k) ≡ held_on b zs l k + held_by_item b zs q
on_set b zs l k q h =
    on_step b zs (set l k q) k
    ∙ ap (λ (m : ℕ). m + held_by_item b zs (get_or (set l k q) k no_item)) (on_above b zs l k k q (omega arith))
    ∙ ap (λ (i : Item). held_on b zs l k + held_by_item b zs i) (get_or-set_same l k q no_item h)

-- ---- what holds all along
pub record Stacked (zs : List Zone) (c n : ℕ) (s : Stack) : Type 0 where
  pub few : s.next ≤ n + 1
  pub under : s.count ≤ s.next
  pub fits : s.count ≤ n
  pub long : length s.list ≡ 32
  pub bound : (k : ℕ) → k < s.count → (get_or s.list k no_item).at < 32
  pub sum : (b : Ranges) → held_on b zs s.list s.count + held_in b (drop s.next (take c zs)) ≡ held_in b (take c zs)

kept_cons : (b : Ranges) (l : List Zone) (z : Zone) (rest : List Zone) → l ≡ z ∷ rest
    → held_in b l ≡ count (range_list b) (first_of z.ineqs z.count) + held_in b rest
unfolding held_in
kept_cons b l z rest h = rw h refl

kept_none : (b : Ranges) (l : List Zone) → l ≡ [] → held_in b l ≡ 0
unfolding held_in
kept_none b l h = rw h refl

bound_set : (l : List Item) (j m : ℕ) (q : Item) → j < length l → q.at < 32 → ((k : ℕ) → k < m → (get_or l k no_item).at < 32) → (k : ℕ)
    → (k < m) ⊎ (k ≡ j) → (get_or (set l j q) k no_item).at < 32
bound_set l j m q h g f k w = by (eqb k j) refl w
  where
    by : (x : Bool) → eqb k j ≡ x → (k < m) ⊎ (k ≡ j) → (get_or (set l j q) k no_item).at < 32
    by true e w = let s : k ≡ j = eqb-true k j e in rw (s, get_or-set_same l j q no_item h) g
    by false e (inl i) = rw (get_or-set_other l j k q no_item (eqb-false k j e)) (f k i)
    by false e (inr i) = absurd (eqb-false k j e i)

module _ (zs : List Zone) (c n : ℕ) (e : n ≡ length (take c zs)) (room : n ≤ 32) (s : Stack) (h : Stacked zs c n s) (go : s.next ≤
    n) where
  passed : n ≤ s.next → Stacked zs c n (pass_of s)
  passed g = record {
    few = omega arith;
    under = omega (arith, h.under);
    fits = h.fits;
    long = h.long;
    bound = h.bound;
    sum = λ b.
        let la : length (take c zs) ≤ s.next = omega arith in
        let ld : length (take c zs) ≤ s.next + 1 = omega arith in
        let a = kept_none b (drop s.next (take c zs)) (drop_of_length-le (take c zs) la) in
        let d = kept_none b (drop (s.next + 1) (take c zs)) (drop_of_length-le (take c zs) ld) in
        omega (arith, h.sum b, a, d);
  }

  pushed : (m : ℕ) → m ≡ (get_or zs s.next no_zone).count → s.next < n → s.count < n → Stacked zs c n (push_of s m)
  pushed m q g f = record {
    few = omega arith;
    under = omega (arith, h.under);
    fits = omega arith;
    long = length-set s.list s.count _ ∙ h.long;
    bound = λ k j. bound_set s.list s.count s.count _ (omega (arith, h.long)) (omega arith) h.bound k (either k j);
    sum = λ b.
        let item : Item = record { at = s.next; count = m } in
        let i : s.next < c = omega (arith, length-take c zs) in
        let rest = kept_cons b (drop s.next (take c zs)) (get_or (take c zs) s.next no_zone) (drop (suc s.next) (take c zs))
        (drop-cons (take c zs) s.next no_zone (omega arith)) in
        let same : count (range_list b) (first_of (get_or (take c zs) s.next no_zone).ineqs (get_or (take c zs) s.next no_zone).count)
        ≡ held_by_item b zs item = rw (get_or-take c zs s.next no_zone i, q) refl in
        let more = on_set b zs s.list s.count item (omega (arith, h.long)) in
        rw (add-one s.next, add-one s.count) (omega (arith, h.sum b, rest, same, more));
  }
    where
      either : (k : ℕ) → k < s.count + 1 → (k < s.count) ⊎ (k ≡ s.count)
      either k j = by (ltb k s.count) refl
        where
          by : (x : Bool) → ltb k s.count ≡ x → (k < s.count) ⊎ (k ≡ s.count)
          by true r = inl (ltb-true k s.count r)
          by false r = inr (omega (arith, ltb-false))

  -- the two on top, where a split has made them of one
  module _ (two : 2 ≤ s.count) (a d : Item) (ea : get_or s.list (s.count - 2) no_item ≡ a) (ed : get_or s.list (s.count - 1)
      no_item ≡ d)
      (same : a.count ≡ d.count) (sib : Siblings (get_or zs a.at no_zone).ineqs (get_or zs d.at no_zone).ineqs a.count) where
    abbrev item : Item
    item = record { at = a.at; count = a.count - 1 }

    -- what the two hold is what the one does
    two_held : (b : Ranges) → held_by_item b zs a + held_by_item b zs d ≡ held_by_item b zs item
    two_held b =
        ap (λ (m : ℕ). held_by_item b zs a + count (range_list b) (first_of (get_or zs d.at no_zone).ineqs m)) (sym same)
        ∙ sib.sum (range_list b)

    on_two : (b : Ranges) → held_on b zs s.list s.count ≡ held_on b zs s.list (s.count - 2) + held_by_item b zs a + held_by_item b zs d
    on_two b =
        let one : s.count ≡ suc (s.count - 1) = omega arith in
        let more : s.count - 1 ≡ suc (s.count - 2) = omega arith in
        ap (held_on b zs s.list) one ∙ on_step b zs s.list (s.count - 1)
        ∙ ap (λ (i : Item). held_on b zs s.list (s.count - 1) + held_by_item b zs i) ed
        ∙ ap (λ (m : ℕ). held_on b zs s.list m + held_by_item b zs d) more
        ∙ ap (λ (m : ℕ). m + held_by_item b zs d) (on_step b zs s.list (s.count - 2)
        ∙ ap (λ (i : Item). held_on b zs s.list (s.count - 2) + held_by_item b zs i) ea)

    joined : Stacked zs c n
        (record { next = s.next; count = s.count - 1; list = set s.list (s.count - 2) item })
    joined = record {
      few = h.few;
      under = omega (arith, h.under);
      fits = omega (arith, h.fits);
      long = length-set s.list (s.count - 2) item ∙ h.long;
      bound = λ k j. bound_set s.list (s.count - 2) s.count item (omega (arith, h.long, h.fits))
          (rw ea at (h.bound (s.count - 2) (omega arith))) h.bound k (inl (omega arith));
      sum = λ b.
          let more : s.count - 1 ≡ suc (s.count - 2) = omega arith in
          let new = on_set b zs s.list (s.count - 2) item (omega (arith, h.long, h.fits)) in
          ap (λ (m : ℕ). held_on b zs (set s.list (s.count - 2) item) m + held_in b (drop s.next (take c zs))) more
          ∙ sum_of (held_on b zs (set s.list (s.count - 2) item) (suc (s.count - 2))) (held_on b zs s.list s.count)
          (held_on b zs s.list (s.count - 2)) (held_by_item b zs a) (held_by_item b zs d) (held_by_item b zs item)
          (held_in b (drop s.next (take c zs))) new (on_two b) (two_held b)
          ∙ h.sum b;
    }
      where
        sum_of : (x y p q r t k : ℕ) → x ≡ p + t → y ≡ p + q + r → q + r ≡ t → x + k ≡ y + k
        sum_of x y p q r t k u v w = omega arith

-- ---- the top
top_none : (s : Stack) → s.count < 2 → top_of s ≡ record { below = 0; top = 0; level = 0 }
unfolding top_of
top_none s h = rw (lt-ltb s.count 2 h) refl

top_two : (s : Stack) → 2 ≤ s.count → top_of s ≡ top_by (get_or s.list (s.count - 2) no_item) (get_or s.list (s.count - 1) no_item)
unfolding top_of
top_two s h = rw (le-ltb s.count 2 h) refl

pub top_bound : (zs : List Zone) (c n : ℕ) (s : Stack) → Stacked zs c n s → ((top_of s).below < 32) × ((top_of s).top < 32)
top_bound zs c n s h = by (ltb s.count 2) refl
  where
    low : (a d : Item) → a.at < 32 → d.at < 32 → (x : Bool)
        → ((top_if x a d).below < 32)
        × ((top_if x a d).top < 32)
    low a d f g true = (f, g)
    low a d f g false = (omega arith, omega arith)

    by : (x : Bool) → ltb s.count 2 ≡ x → ((top_of s).below < 32) × ((top_of s).top < 32)
    by true e = rw (top_none s (ltb-true s.count 2 e)) (omega arith, omega arith)
    by false e =
        let two = ltb-false s.count 2 e in
        rw (top_two s two)
        (low (get_or s.list (s.count - 2) no_item) (get_or s.list (s.count - 1) no_item) (h.bound (s.count - 2) (omega arith))
        (h.bound (s.count - 1) (omega arith))
        (eqb (get_or s.list (s.count - 2) no_item).count (get_or s.list (s.count - 1) no_item).count))

-- what is left to do: each zone is put on the stack, and leaves it once at most
abbrev pub left_of : ℕ → Stack → ℕ
left_of n s = 2 * (n + 1 - s.next) + s.count

-- ---- a step
module _ (zs : List Zone) (c n : ℕ) (e : n ≡ length (take c zs)) (room : n ≤ 32) (s : Stack) (h : Stacked zs c n s) (go : s.next ≤
    n) where
  step_joined : Siblings (get_or zs (top_of s).below no_zone).ineqs (get_or zs (top_of s).top no_zone).ineqs (top_of s).level
      → Stacked zs c n (join_of s (top_of s))
  step_joined sib = by (ltb s.count 2) refl
    where
      one : (a d : Item) → (x : Bool) → eqb a.count d.count ≡ x
          → Siblings (get_or zs (top_if x a d).below no_zone).ineqs
          (get_or zs (top_if x a d).top no_zone).ineqs
          (top_if x a d).level
          → (top_by a d ≡ record { below = a.at; top = d.at; level = a.count })
          × ((a.count ≡ d.count) × Siblings (get_or zs a.at no_zone).ineqs
          (get_or zs d.at no_zone).ineqs a.count)
      one a d true q k = (rw q refl, (eqb-true a.count d.count q, k))
      one a d false q k = absurd (omega (arith, k.some))

      by : (x : Bool) → ltb s.count 2 ≡ x → Stacked zs c n (join_of s (top_of s))
      by true q = absurd (none (rw (top_none s (ltb-true s.count 2 q)) at sib))
        where
          none : Siblings (get_or zs 0 no_zone).ineqs (get_or zs 0 no_zone).ineqs 0 → ⊥
          none k = omega (arith, k.some)
      by false q =
          let two = ltb-false s.count 2 q in
          let a = get_or s.list (s.count - 2) no_item in
          let d = get_or s.list (s.count - 1) no_item in
          let k = one a d (eqb a.count d.count) refl (rw (top_two s two) at sib) in
          rw (le-ltb s.count 2 two, top_two s two, k.0) (joined zs c n e room s h go two a d refl refl k.1.0 k.1.1)

  pub step_keeps : (t : Top) (x : Bool) (m : ℕ) → t ≡ top_of s
      → (x ≡ true → Siblings (get_or zs t.below no_zone).ineqs (get_or zs t.top no_zone).ineqs t.level)
      → (s.next < n → m ≡ (get_or zs s.next no_zone).count)
      → Stacked zs c n (step_of s t x n m)
  unfolding step_of
  step_keeps t true m q sib f = rw q (step_joined (rw q at (sib refl)))
  step_keeps t false m q sib f = by (ltb s.next n) refl
    where
      by : (y : Bool) → ltb s.next n ≡ y
          → Stacked zs c n (cond (ltb s.next n) (cond (ltb s.count n) (push_of s m) (pass_of s)) (pass_of s))
      by true r =
          let i = ltb-true s.next n r in
          let k : s.count < n = omega (arith, h.under) in
          rw (r, lt-ltb s.count n k) (pushed zs c n e room s h go m (f i) i k)
      by false r = rw r (passed zs c n e room s h go (ltb-false s.next n r))

  -- each step leaves less to do
  two_on_top : (t : Top) → t ≡ top_of s → Siblings (get_or zs t.below no_zone).ineqs (get_or zs t.top no_zone).ineqs t.level
      → 2 ≤ s.count
  two_on_top t q k = by (ltb s.count 2) refl
    where
      by : (x : Bool) → ltb s.count 2 ≡ x → 2 ≤ s.count
      by true r =
          let z : t.level ≡ 0 = ap (λ (u : Top). u.level) (q ∙ top_none s (ltb-true s.count 2 r)) in
          absurd (omega (arith, k.some, z))
      by false r = ltb-false s.count 2 r

  pub step_less : (t : Top) (x : Bool) (m : ℕ) → t ≡ top_of s
      → (x ≡ true → Siblings (get_or zs t.below no_zone).ineqs (get_or zs t.top no_zone).ineqs t.level)
      → left_of n (step_of s t x n m) < left_of n s
  unfolding step_of
  step_less t true m q sib =
      let two = two_on_top t q (sib refl) in
      rw (le-ltb s.count 2 two) (omega arith)
  step_less t false m q sib = by (ltb s.next n) refl
    where
      by : (y : Bool) → ltb s.next n ≡ y
          → left_of n (cond (ltb s.next n) (cond (ltb s.count n) (push_of s m) (pass_of s)) (pass_of s)) < left_of n s
      by true r =
          let i = ltb-true s.next n r in
          let k : s.count < n = omega (arith, h.under) in
          rw (r, lt-ltb s.count n k) (omega arith)
      by false r = rw r (omega arith)

-- ---- the start and the end
pub stacked_start : (zs : List Zone) (c n : ℕ) (l : List Item) → length l ≡ 32 → Stacked zs c n (record { next = 0; count = 0; list = l })
stacked_start zs c n l h = record {
  few = omega arith;
  under = omega arith;
  fits = omega arith;
  long = h;
  bound = λ k j. absurd (omega arith);
  sum = λ b. only (held_on b zs l 0) (held_in b (take c zs)) (on_none b zs l);
}
  where
    only : (x y : ℕ) → x ≡ 0 → x + y ≡ y
    only x y e = omega arith

pub stacked_end : (zs : List Zone) (c n : ℕ) (s : Stack) → n ≡ length (take c zs) → Stacked zs c n s → n < s.next → (b : Ranges)
    → held_on b zs s.list s.count ≡ held_in b (take c zs)
stacked_end zs c n s e h g b =
    let l : length (take c zs) ≤ s.next = omega arith in
    let a = kept_none b (drop s.next (take c zs)) (drop_of_length-le (take c zs) l) in
    omega (arith, h.sum b, a)

-- ---- zones in a list of numbers
pub sib_at : (l : List ℤ) (ns : List ℕ) (p q n : ℕ) → p < 32 → q < 32 → Siblings (rows_from l (50 * p) 24) (rows_from l (50 * q) 24) n
    → Siblings (get_or (zones_in l ns) p no_zone).ineqs (get_or (zones_in l ns) q no_zone).ineqs n
sib_at l ns p q n hp hq h = rw (zones_at_lem l ns p hp, zones_at_lem l ns q hq) h
