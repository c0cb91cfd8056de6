-- One turn of `run`: the test of a phase, from the entries that the code reads, moves the part on as `forward_c` does.
use Rattle.std.specs.Prelude.{◌≡◌, List, Bool, ◌&&◌, ltb, ℤ, length, get_or, set}
use Rattle.std.proofs.Math.Path.{refl, ap}
use Rattle.std.proofs.Common.{sym, subst, ◌∙◌, true≢false}
use Rattle.std.proofs.Math.Bool.{true, false, cond}
use Prim.Native.Nat.{ℕ, zero, suc, ◌+◌, ◌-◌, ◌/◌, ◌%◌, ◌≤◌, ◌<◌, min}
use native.Mathlib.Omega.{arith}
use borrow.Author.Tests.{lt-ltb, le-ltb, ltb-true, ltb-false, ne_eqb}
use Rattle.std.proofs.lemmas.List.{set-get_or}
use Rattle.constrain.specs.RuleLaws.{Few, places_few, read_c, read_framed, via_of, asked_is, via_is}
use Rattle.constrain.specs.Rules.{tighter_c, via_c, push_test, ask_c, places_at, framed_c, via_at, outside_c}
use Rattle.constrain.specs.declared.rule.Reads.{Reads}
use Rattle.constrain.specs.declared.rule.Rule.{Rule}
use Rattle.expr.specs.Records.{no_bound, no_test, range_list}
use Rattle.expr.specs.declared.bound.Bound.{Bound}
use Rattle.expr.specs.declared.bound.Test.{Test}
use Rattle.expr.specs.declared.bound.Test.TheVariants.{Yes, No, Ask}
use Rattle.expr.specs.declared.number.Expr.{Expr}
use Rattle.expr.specs.declared.number.Valuation.{Valuation}
use Rattle.expr.specs.declared.range.Ranges.{Ranges}
use Rattle.parts.specs.Parts.{goes_on, with_bounds, standing, put_c, pushed_c, answered_c, halted_c, told_c, counted_c, forward_c, next}
use Rattle.parts.specs.Numbers.{after_n, after_number, settled_number, yes_number}
use Rattle.parts.specs.Parts.{halt_of, stopped_by, after_c, enters_c, question_c, turn_c}
use Rattle.parts.specs.declared.part.Halt.{Halt}
use Rattle.parts.specs.declared.part.Halt.TheVariants as stops
use Rattle.parts.specs.declared.part.Next.{Next}
use Rattle.parts.specs.declared.part.Part.{Part}
use Rattle.parts.specs.declared.part.Turn.{Turn}
use Rattle.systems.specs.Boxes.{Narrows}
use Rattle.systems.specs.BoxLaws.{narrows_refl}
use Rattle.inequalities.specs.Flat.{exprs_in}
use Rattle.split.specs.Runs.{Going, left, going_starts, forward_going, left_less}
use Rattle.split.specs.Trees.{Live}
use Rattle.zones.specs.Fits.{Fit, noted_trusted, noted_ranges, found_trusted}
use Rattle.zones.specs.FlatLaws.{Listing, listing_same, settled_same}
use Rattle.zones.specs.Hinted.{exprs_of, Hinted, Trusted, found_c, noted_c}
use Rattle.zones.specs.Settled.{Verdict, told_of, told_settled, told_yes, never_c, opposite_c, on_c, settled_c, settled_f}
use Rattle.zones.specs.System.{SameRows}
use Rattle.zones.specs.declared.hint.Hint.{Hint}
use Rattle.zones.specs.declared.told.Told.{Told}
use Rattle.zones.specs.declared.told.Told.TheVariants as kinds
use Rattle.zones.specs.declared.zone.Zone.{Zone}

-- the part after a verdict on its test t, via being what was compared and x the place of the entry
unfoldable pub turned : ℕ → Part → Test → Bound → Told → Part
turned x q t via kind =
    let n = turn_c q.phase q.tests q.test (get_or q.zone.bounds x no_bound) t via kind in
    record {
      phase = n.phase;
      halt = n.halt;
      tests = n.tests;
      test = n.test;
      zone = with_bounds q.zone (set q.zone.bounds x n.entry);
    }

-- a verdict that is not settled is on a question, and has it
asked_by : (b : Ranges) (z : Zone) (t : Test) → told_settled (settled_c b z t).kind ≡ false → (settled_c b z t).test ≡ question_c t
unfolding on_c
asked_by b z Yes h = absurd (true≢false h)
asked_by b z No h = absurd (true≢false h)
asked_by b z (Ask e) h = by (never_c b z e) (never_c b z (opposite_c e)) (ltb z.count 24)
  where
    of : Told → Verdict
    of k = record { kind = k; test = e }

    by : (r s t : Bool) → (cond {A = Verdict} r (of kinds.No) (cond s (of kinds.Yes) (cond t (of kinds.Split) (of kinds.Full)))).test ≡ e
    by true s t = refl
    by false true t = refl
    by false false true = refl
    by false false false = refl

-- a matrix with an entry put in again
same_zone : (q : Part) (x : ℕ)
    → record {
      phase = q.phase;
      halt = q.halt;
      tests = q.tests;
      test = q.test;
      zone = with_bounds q.zone (set q.zone.bounds x (get_or q.zone.bounds x no_bound));
    }
    ≡ q
same_zone q x =
    ap
    (λ (m : List Bound).
    record { phase = q.phase; halt = q.halt; tests = q.tests; test = q.test; zone = with_bounds q.zone m })
    (set-get_or q.zone.bounds x no_bound)

-- the last entry, or one more
last_entry : (x : ℕ) → cond (ltb (suc (suc x)) 26) (next (suc (suc x) + 1) stops.No) (next 27 stops.Kept) ≡ cond (ltb x 24) (next (x + 3) stops.No) (next 27 stops.Kept)
last_entry x = by (ltb x 24) refl
  where
    by : (s : Bool) → ltb x 24 ≡ s → cond (ltb (suc (suc x)) 26) (next (suc (suc x) + 1) stops.No) (next 27 stops.Kept) ≡ cond s (next (x + 3) stops.No)
        (next 27 stops.Kept)
    by true s =
        let h = ltb-true x 24 s in
        let same : suc (suc x) + 1 ≡ x + 3 = omega arith in
        rw (lt-ltb (suc (suc x)) 26 (omega arith), same) refl
    by false s = let h = ltb-false x 24 s in rw (le-ltb (suc (suc x)) 26 (omega arith)) refl

-- a part that stands where a record of two numbers says
stands : Part → Next → Part
stands p n = standing p n.phase n.halt

stands_by : (p : Part) (s : Bool) (a b : Next) → stands p (cond s a b) ≡ cond s (stands p a) (stands p b)
stands_by p true a b = refl
stands_by p false a b = refl

module _ (r : Rule) (long : length r.old ≡ 25) (q : Part) (t : Test) where
  abbrev into : ℕ → ℕ
  into x = (places_at r.left r.right x).into

  -- no: it stands where the answer leaves it
  no_at : (x : ℕ) → q.phase ≡ x → turned (into x) q t (via_of r long x) kinds.No ≡ answered_c r (counted_c q t) false
  unfolding turned turn_c after_c enters_c answered_c pushed_c counted_c stands
  no_at zero e = rw e (λ i. standing (same_zone (counted_c q t) (into 0) i) 1 stops.No)
  no_at (suc zero) e = rw e (λ i. standing (same_zone (counted_c q t) (into 1) i) 27 stops.Kept)
  no_at (suc (suc x)) e =
      let two : suc (suc x) - 2 ≡ x = omega arith in
      rw (e, le-ltb (suc (suc x)) 1 (omega arith), le-ltb (suc (suc x)) 2 (omega arith), lt-ltb 1 (suc (suc x)) (omega arith), two)
      ((λ i. stands (same_zone (counted_c q t) (into (suc (suc x))) i) (last_entry x i))
      ∙ stands_by (counted_c q t) (ltb x 24) (next (x + 3) stops.No) (next 27 stops.Kept))

  -- yes: the same, and from the third phase on the entry is put in
  yes_at : (x : ℕ) → q.phase ≡ x → x < 27 → (ask_c r x ≡ no_test → ⊥)
      → turned (into x) q t (via_of r long x) kinds.Yes ≡ answered_c r (counted_c q t) true
  unfolding turned turn_c after_c enters_c answered_c pushed_c counted_c stands places_at
  yes_at zero e h k = rw e (λ i. standing (same_zone (counted_c q t) (into 0) i) 27 stops.Cut)
  yes_at (suc zero) e h k = rw e (λ i. standing (same_zone (counted_c q t) (into 1) i) 2 stops.No)
  yes_at (suc (suc x)) e h k =
      let two : suc (suc x) - 2 ≡ x = omega arith in
      let few : min x 24 ≡ x = omega arith in
      rw (
        e,
        le-ltb (suc (suc x)) 1 (omega arith),
        le-ltb (suc (suc x)) 2 (omega arith),
        lt-ltb 1 (suc (suc x)) (omega arith),
        two,
        few,
        via_is r long x k,
      )
      ((λ i. stands (put_c (counted_c q t) x (via_c r x)) (last_entry x i))
      ∙ stands_by (put_c (counted_c q t) x (via_c r x)) (ltb x 24) (next (x + 3) stops.No) (next 27 stops.Kept))

  -- it stops at a test that is not settled
  halted_at : (x : ℕ) (kind : Told) (halt : Halt) → told_settled kind ≡ false → told_yes kind ≡ false → after_c q.phase kind ≡ next q.phase halt
      → (e : Expr) → e ≡ question_c t → turned (into x) q t (via_of r long x) kind ≡ halted_c (counted_c q t) halt e
  unfolding turned turn_c enters_c counted_c
  halted_at x kind halt h y a e he =
      rw (h, y, a, he) (by (ltb 1 q.phase))
    where
      by : (s : Bool)
          → record {
            phase = q.phase;
            halt = halt;
            tests = (counted_c q t).tests;
            test = question_c t;
            zone = with_bounds q.zone
                (set q.zone.bounds (into x) (cond (s && false) (via_of r long x) (get_or q.zone.bounds (into x) no_bound)));
          }
          ≡ halted_c (counted_c q t) halt (question_c t)
      by true = λ i. halted_c (same_zone (counted_c q t) (into x) i) halt (question_c t)
      by false = λ i. halted_c (same_zone (counted_c q t) (into x) i) halt (question_c t)

  -- .. the verdict of a number
  halted_number : (x kind : ℕ) → 2 ≤ kind → (e : Expr) → e ≡ question_c t
      → turned (into x) q t (via_of r long x) (told_of kind) ≡ halted_c (counted_c q t) (halt_of kind) e
  halted_number x kind h e he =
      halted_at x (told_of kind) (halt_of kind)
      (settled_number kind ∙ le-ltb kind 2 h)
      (yes_number kind ∙ ne_eqb kind 1 (λ z. omega arith))
      (after_number q.phase kind ∙ after)
      e he
    where
      after : after_n q.phase kind ≡ next q.phase (halt_of kind)
      after = rw (lt-ltb 1 kind (omega arith)) refl

-- one turn is `forward_c`
module _ (b : Ranges) (r : Rule) (long : length r.old ≡ 25) (q : Part) (early : q.phase < 27) where
  abbrev t : Test
  t = ask_c r q.phase

  abbrev v : Verdict
  v = settled_c b q.zone t

  abbrev moved : Told → Part
  moved kind = turned (places_at r.left r.right q.phase).into q t (via_of r long q.phase) kind

  no_question : t ≡ no_test → v.kind ≡ kinds.No
  no_question e = ap (λ (x : Test). (settled_c b q.zone x).kind) e

  yes_not_none : v.kind ≡ kinds.Yes → t ≡ no_test → ⊥
  yes_not_none h e = true≢false (sym (ap told_yes h) ∙ ap told_yes (no_question e))

  moved_is : moved v.kind ≡ forward_c b r q
  unfolding forward_c after_c
  moved_is = by v.kind refl
    where
      asks : told_settled v.kind ≡ false → v.test ≡ question_c t
      asks h = asked_by b q.zone t h

      by : (k : Told) → v.kind ≡ k → moved k ≡ told_c r (counted_c q t) v.test k
      by kinds.No e = no_at r long q t q.phase refl
      by kinds.Yes e = yes_at r long q t q.phase refl early (yes_not_none e)
      by kinds.Split e = halted_at r long q t q.phase kinds.Split stops.Split refl refl refl v.test (asks (ap told_settled e))
      by kinds.Full e = halted_at r long q t q.phase kinds.Full stops.Full refl refl refl v.test (asks (ap told_settled e))
      by (kinds.Other n) e =
          halted_at r long q t q.phase (kinds.Other n) (stopped_by n) refl refl refl v.test (asks (ap told_settled e))

-- ---- a part on its way, with the list of its zone's inequalities; c are the ranges that these leave
pub record Way (r : Rule) (z : Zone) (c : Ranges) (n : ℕ) (p : Part) (flat : List ℤ) (q : Part) : Type 0 where
  pub matrix : length r.old ≡ 25
  pub counted : n ≡ min z.count 24
  pub long : length flat ≡ 125
  pub same : exprs_in flat n ≡ exprs_of z
  pub zone : q.zone ≡ with_bounds z q.zone.bounds
  pub all : Ranges
  pub narrows : Narrows (exprs_of z) (range_list all) (range_list c)
  pub going : (b : Ranges) → Narrows (exprs_of z) (range_list b) (range_list c) → Going b r p q
  pub early : goes_on q.halt ≡ true → q.phase < 27

pub way_starts : (r : Rule) (c : Ranges) (n : ℕ) (p : Part) (flat : List ℤ) → Live p → length r.old ≡ 25
    → n ≡ min p.zone.count 24 → length flat ≡ 125 → exprs_in flat n ≡ exprs_of p.zone → Way r p.zone c n p flat p
way_starts r c n p flat live m count long same =
    record {
      matrix = m;
      counted = count;
      long = long;
      same = same;
      zone = refl;
      all = c;
      narrows = narrows_refl (exprs_of p.zone) (range_list c);
      going = λ d h. going_starts d r p live;
      early = live.early;
    }

-- ---- what is known of its zone, from what was known at first
pub record Knowing (z : Zone) (first now : Hint) : Type 0 where
  pub ranges : now.ranges ≡ first.ranges
  pub trusted : Trusted z now

pub knowing_starts : (z : Zone) (h : Hint) → Trusted z h → Knowing z h h
knowing_starts z h t = record { ranges = refl; trusted = t }

pub knowing_hinted : (b : Ranges) (z : Zone) (first now : Hint) → Knowing z first now → Hinted b z first → Hinted b z now
knowing_hinted b z first now k h =
    record {
      narrows = subst (λ (c : Ranges). Narrows (exprs_of z) (range_list b) (range_list c)) (sym k.ranges) h.narrows;
      trusted = k.trusted;
    }

module _ (r : Rule) (z : Zone) (first now : Hint) (n : ℕ) (p : Part) (flat : List ℤ) (q : Part) (w : Way r z first.ranges n p flat q)
    (k : Knowing z first now) where
  own : Listing now.ranges now.ranges z n flat
  own =
      record {
        counted = w.counted;
        long = w.long;
        same = w.same;
        narrows = narrows_refl (exprs_of z) (range_list now.ranges);
      }

  pub knowing_fits : Fit now n flat
  knowing_fits = record { zone = z; listing = own; trusted = k.trusted }

  -- the verdict is one over the first ranges
  pub knowing_settled : (t : Test) (kind : Told) → kind ≡ settled_f now.ranges flat n t → kind ≡ settled_f first.ranges flat n t
  knowing_settled t kind e = e ∙ ap (λ (c : Ranges). settled_f c flat n t) k.ranges

  pub knowing_learned : (t : Test) (kind : Told) → kind ≡ settled_f now.ranges flat n t → (v : Valuation) (s : Bool) (h : Hint)
      → h ≡ cond s (noted_c now t kind) (found_c now v) → Knowing z first h
  knowing_learned t kind e v s h g = subst (Knowing z first) (sym g) (by s)
    where
      by : (s : Bool) → Knowing z first (cond s (noted_c now t kind) (found_c now v))
      by true =
          record {
            ranges = noted_ranges now t kind ∙ k.ranges;
            trusted = noted_trusted z now t kind k.trusted (e ∙ settled_same now.ranges now.ranges z n flat t own);
          }
      by false = record { ranges = k.ranges; trusted = found_trusted z now v k.trusted }

module _ (r : Rule) (z : Zone) (c : Ranges) (n : ℕ) (p : Part) (flat : List ℤ) (q : Part) (w : Way r z c n p flat q) (h : goes_on q.halt ≡ true)
  where
    -- a test on the list is one on the part's zone
    listing : (b : Ranges) → Narrows (exprs_of z) (range_list b) (range_list c) → Listing b c q.zone n flat
    listing b m = rw w.zone (record { counted = w.counted; long = w.long; same = w.same; narrows = m })

    module _ (t : Test) (ht : t ≡ ask_c r q.phase) (kind : Told) (hk : kind ≡ settled_f c flat n t) (via : Bound)
        (hv : via ≡ via_of r w.matrix q.phase) where
      abbrev after : Part
      after = turned (places_at r.left r.right q.phase).into q t via kind

      after_is : (b : Ranges) → Narrows (exprs_of z) (range_list b) (range_list c) → after ≡ forward_c b r q
      after_is b m =
          let told : kind ≡ (settled_c b q.zone (ask_c r q.phase)).kind =
          hk ∙ settled_same b c q.zone n flat t (listing b m) ∙ ap (λ (x : Test). (settled_c b q.zone x).kind) ht in
          rw (told, hv, ht) (moved_is b r w.matrix q (w.early h))

      -- what it comes to stays the same
      after_going : (b : Ranges) → Narrows (exprs_of z) (range_list b) (range_list c) → Going b r p after
      after_going b k = subst (Going b r p) (sym (after_is b k)) (forward_going b r p q (w.going b k) h)

      pub way_turn : (m : List ℤ) → SameRows n flat m → Way r z c n p m after
      unfolding turned
      way_turn m hm =
          let l = listing_same w.all c q.zone n flat m hm (listing w.all w.narrows) in
          record {
            matrix = w.matrix;
            counted = w.counted;
            long = l.long;
            same = l.same ∙ ap exprs_of w.zone;
            zone = ap (λ (y : Zone). with_bounds y after.zone.bounds) w.zone;
            all = w.all;
            narrows = w.narrows;
            going = after_going;
            early = (after_going w.all w.narrows).early;
          }

      pub way_less : left after < left q
      way_less =
          subst (λ (x : Part). left x < left q) (sym (after_is w.all w.narrows))
          (left_less w.all r p q (w.going w.all w.narrows) h)

-- ---- an entry past the clocks
outside_none : (r : Rule) (k : ℕ) → outside_c r.clocks k ≡ true → ask_c r k ≡ no_test
unfolding outside_c ask_c push_test
outside_none r zero o = absurd (true≢false (sym o))
outside_none r (suc zero) o = absurd (true≢false (sym o))
outside_none r (suc (suc x)) o = by _ (ltb r.clocks (x / 5)) (ltb r.clocks (x % 5)) o
  where
    by : (u : Test) (s t : Bool) → cond s true t ≡ true → cond s no_test (cond t no_test u) ≡ no_test
    by u true t h = refl
    by u false true h = refl
    by u false false h = absurd (true≢false (sym h))

module _ (r : Rule) (z : Zone) (c : Ranges) (n : ℕ) (p : Part) (flat : List ℤ) (q : Part) (w : Way r z c n p flat q) (h : goes_on q.halt ≡ true)
    (o : outside_c r.clocks q.phase ≡ true) (x : Next) (hx : x ≡ after_c q.phase kinds.No) where
  abbrev skipped : Part
  skipped = record { phase = x.phase; halt = x.halt; tests = q.tests; test = q.test; zone = q.zone }

  few_tests : min q.tests 26 + 0 ≡ q.tests
  few_tests = let g = w.going w.all w.narrows in omega (arith, g.counted h, g.early h)

  abbrev into_now : ℕ
  into_now = (places_at r.left r.right q.phase).into

  skipped_is : turned into_now q no_test (via_of r w.matrix q.phase) kinds.No ≡ skipped
  unfolding turned turn_c enters_c
  skipped_is =
      rw (few_tests, hx)
      (ap
      (λ (e : Bound).
      record {
        phase = (after_c q.phase kinds.No).phase;
        halt = (after_c q.phase kinds.No).halt;
        tests = q.tests;
        test = q.test;
        zone = with_bounds q.zone (set q.zone.bounds into_now e);
      })
      (never _ _ (ltb 1 q.phase))
      ∙ ap (λ (y : Part). standing y (after_c q.phase kinds.No).phase (after_c q.phase kinds.No).halt) (same_zone q into_now))
    where
      never : (a e : Bound) (s : Bool) → cond (s && false) a e ≡ e
      never a e true = refl
      never a e false = refl

  none_settled : kinds.No ≡ settled_f c flat n no_test
  unfolding settled_f
  none_settled = refl

  none_left : SameRows n flat flat
  none_left = record { long = refl; rows = refl }

  asked : no_test ≡ ask_c r q.phase
  asked = sym (outside_none r q.phase o)

  pub way_skips : Way r z c n p flat skipped
  way_skips =
      subst (Way r z c n p flat) skipped_is
      (way_turn r z c n p flat q w h no_test asked kinds.No none_settled (via_of r w.matrix q.phase) refl flat none_left)

  pub skip_less : left skipped < left q
  skip_less =
      subst (λ (y : Part). left y < left q) skipped_is
      (way_less r z c n p flat q w h no_test asked kinds.No none_settled (via_of r w.matrix q.phase) refl)

-- ---- the code's turn, call by call
-- a part from the code's numbers
abbrev pub part_of : Zone → List Bound → Expr → ℕ → ℕ → Halt → Part
part_of z m e tests phase halt = record { phase = phase; halt = halt; tests = tests; test = e; zone = with_bounds z m }

pub few_at : (i j k : ℕ) (at : Reads) → at ≡ places_at i j k → Few at
few_at i j k at h = subst Few (sym h) (places_few i j k)

module _ (r : Rule) (z : Zone) (c : Ranges) (n : ℕ) (p : Part) (flat : List ℤ) (q : Part) (w : Way r z c n p flat q) (h : goes_on q.halt ≡ true)
    (at : Reads) (ha : at ≡ places_at r.left r.right q.phase) (old : List Bound) (ho : old ≡ framed_c r.old)
  where
    -- what is read at a place
    read : (x : ℕ) → x ≤ 25 → get_or old x no_bound ≡ read_c r.old x
    read x k = ap (λ (m : List Bound). get_or m x no_bound) ho ∙ read_framed r.old w.matrix x k

    few : Few at
    few = few_at r.left r.right q.phase at ha

    module _ (via : Bound) (hv : via ≡ via_at r.clocks q.phase r.bound (get_or old at.first no_bound) (get_or old at.last no_bound))
      where
        via_read : via ≡ via_of r w.matrix q.phase
        via_read =
            hv
            ∙ ap (λ (x : Bound). via_at r.clocks q.phase r.bound x (get_or old at.last no_bound)) (read at.first few.first)
            ∙ ap (via_at r.clocks q.phase r.bound (read_c r.old at.first)) (read at.last few.last)
            ∙ ap (λ (x : Reads). via_at r.clocks q.phase r.bound (read_c r.old x.first) (read_c r.old x.last)) ha

        module _ (t : Test) (ht : t ≡ tighter_c via (get_or old at.was no_bound)) where
          test_read : t ≡ ask_c r q.phase
          test_read =
              ht
              ∙ ap (λ (x : Bound). tighter_c x (get_or old at.was no_bound)) via_read
              ∙ ap (tighter_c (via_of r w.matrix q.phase))
              (read at.was few.was ∙ ap (λ (x : Reads). read_c r.old x.was) ha)
              ∙ asked_is r w.matrix q.phase

          module _ (kind : Told) (hk : kind ≡ settled_f c flat n t) (x : Turn)
              (hx : x ≡ turn_c q.phase q.tests q.test (get_or q.zone.bounds at.into no_bound) t via kind) where
            abbrev made : Part
            made = part_of q.zone (set q.zone.bounds at.into x.entry) x.test x.tests x.phase x.halt

            made_is : turned (places_at r.left r.right q.phase).into q t via kind ≡ made
            unfolding turned
            made_is =
                ap (λ (y : Reads). turned y.into q t via kind) (sym ha)
                ∙ ap
                (λ (y : Turn). part_of q.zone (set q.zone.bounds at.into y.entry) y.test y.tests y.phase y.halt)
                (sym hx)

            pub run_turn : (m : List ℤ) → SameRows n flat m → Way r z c n p m made
            run_turn m hm = subst (Way r z c n p m) made_is (way_turn r z c n p flat q w h t test_read kind hk via via_read m hm)

            pub run_less : left made < left q
            run_less = subst (λ (y : Part). left y < left q) made_is (way_less r z c n p flat q w h t test_read kind hk via via_read)
