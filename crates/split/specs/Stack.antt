-- The stack of parts that are still to be worked on, the next one on top.
use Rattle.std.specs.Prelude.{◌≡◌, refl, List, [], Bool, true, false, cond, ℕ, zero, suc, ◌+◌, ◌-◌, ◌≤◌, ◌<◌, ltb, length, get_or}
use Rattle.std.specs.Prelude.{set, replicate}
use Rattle.std.proofs.Math.Path.{sym, ap}
use Rattle.std.proofs.Common.{subst, ◌∙◌, arith, ne_eqb, length-set, add-one, get_or-set_same, get_or-set_other}
use Rattle.expr.specs.declared.range.Ranges.{Ranges}
use Rattle.split.specs.Runs.{yes_live, yes_later, yes_count, no_live, no_later, no_count, ran_ended, ran_split, split_leaves}
use Rattle.split.specs.Guarded.{cut_c}
use Rattle.split.specs.Listed.{refused_c, list_c}
use Rattle.expr.specs.Records.{no_expr}
use Rattle.zones.specs.Zone.{plus_c}
use Rattle.parts.specs.Parts.{goes_on, is_split, yes_c, no_c}
use Rattle.split.specs.Trees.{TreeC, cut_t, keep_t, ask_t, tree_at, worked_c, start_c, ended_by, ended_c, meant, Live, Ran}
use Rattle.zones.specs.Settled.{opposite_c, never_c}
use Rattle.parts.specs.declared.part.Halt.{Halt}
use Rattle.parts.specs.declared.part.Halt.TheVariants as stops
use Rattle.parts.specs.declared.part.Part.{Part}
use Rattle.constrain.specs.declared.rule.Rule.{Rule}
use Rattle.zones.specs.declared.zone.Zone.{Zone}
use Rattle.split.specs.declared.list.Counted.{Counted}

-- what is read past the stack's end
abbrev pub no_part : Part
no_part = record { phase = 0; halt = stops.No; tests = 0; test = no_expr; zone = record { count = 0; ineqs = []; bounds = [] } }

-- the first n parts worked, from the top down
unfoldable pub drained : Ranges → Rule → List Part → ℕ → Counted → Counted
drained b r st zero out = out
drained b r st (suc k) out = drained b r st k (meant b r (get_or st k no_part) out)

-- each of them waits for its turn, and has at least as many inequalities as there are parts below it
abbrev pub Waiting : List Part → ℕ → Type 0
Waiting st zero = Unit {0}
Waiting st (suc k) = (k ≤ (get_or st k no_part).zone.count) × Live (get_or st k no_part) × Waiting st k

-- ---- a refusal sticks
refused_sticks : (n : ℕ) (out : Counted) → 0 < out.zones.refusal → refused_c n out ≡ out
unfolding refused_c
refused_sticks n out h = rw (ne_eqb out.zones.refusal 0 (λ e. omega arith)) refl

list_sticks : (z : Zone) (k : ℕ) (out : Counted) → 0 < out.zones.refusal → list_c z k out ≡ out
unfolding list_c
list_sticks z k out h = rw (ne_eqb out.zones.refusal 0 (λ e. omega arith)) (refused_sticks 7 out h)

same_pick : {A : Type 0} (t : Bool) (a b c : A) → a ≡ c → b ≡ c → cond t a b ≡ c
same_pick true a b c h k = h
same_pick false a b c h k = k

pub worked_sticks : (b : Ranges) (t : TreeC) (k : ℕ) (z : Zone) (out : Counted) → 0 < out.zones.refusal → worked_c b t k z out ≡ out
unfolding worked_c
worked_sticks b cut_t k z out h = refl
worked_sticks b (keep_t m) k z out h = list_sticks _ k out h
worked_sticks b (ask_t e f) k z out h =
    same_pick (never_c b z e) _ _ out (worked_sticks b (f false) (suc k) z out h)
    (same_pick (never_c b z (opposite_c e)) _ _ out (worked_sticks b (f true) (suc k) z out h)
    (same_pick (ltb z.count 24) _ _ out
    (ap (worked_c b (f false) (suc k) (plus_c z (opposite_c e))) (worked_sticks b (f true) (suc k) (plus_c z e) out h)
    ∙ worked_sticks b (f false) (suc k) (plus_c z (opposite_c e)) out h)
    (refused_sticks 8 out h)))

ended_sticks : (p : Part) (out : Counted) → 0 < out.zones.refusal → ended_c p out ≡ out
unfolding ended_c
ended_sticks p out h = by p.halt
  where
    by : (k : Halt) → ended_by k p out ≡ out
    by stops.No = refl
    by stops.Cut = refl
    by stops.Kept = list_sticks p.zone p.tests out h
    by stops.Split = refl
    by stops.Full = refused_sticks 8 out h
    by (stops.Other n) = other n (ltb n 4)
      where
        other : (n : ℕ) (b : Bool) → cond b out (refused_c n out) ≡ out
        other n true = refl
        other n false = refused_sticks n out h

pub meant_sticks : (b : Ranges) (r : Rule) (p : Part) (out : Counted) → 0 < out.zones.refusal → meant b r p out ≡ out
unfolding meant
meant_sticks b r p out h =
    same_pick (goes_on p.halt) _ _ out (worked_sticks b (tree_at r p.phase p.zone.bounds) p.tests p.zone out h)
    (ended_sticks p out h)

drained_sticks : (b : Ranges) (r : Rule) (st : List Part) (k : ℕ) (out : Counted) → 0 < out.zones.refusal → drained b r st k out ≡ out
unfolding drained
drained_sticks b r st zero out h = refl
drained_sticks b r st (suc k) out h = ap (drained b r st k) (meant_sticks b r (get_or st k no_part) out h) ∙ drained_sticks b r st k out h

-- ---- what lies below a place
drained_set : (b : Ranges) (r : Rule) (st : List Part) (i k : ℕ) (x : Part) (out : Counted) → k ≤ i
    → drained b r (set st i x) k out ≡ drained b r st k out
unfolding drained
drained_set b r st i zero x out h = refl
drained_set b r st i (suc k) x out h =
    ap (λ (p : Part). drained b r (set st i x) k (meant b r p out)) (get_or-set_other st i k x no_part (λ e. omega arith))
    ∙ drained_set b r st i k x _ (omega arith)

waiting_set : (st : List Part) (i k : ℕ) (x : Part) → k ≤ i → Waiting st k → Waiting (set st i x) k
waiting_set st i zero x h w = tt
waiting_set st i (suc k) x h w =
    rw (get_or-set_other st i k x no_part (λ e. omega arith)) (w.0, w.1, waiting_set st i k x (omega arith) w.2)

-- ---- the measure: a part weighs more than both parts of its split
unfoldable pub size : ℕ → ℕ
size zero = 1
size (suc k) = suc (size k + size k)

pub size_more : (j k : ℕ) → j ≤ k → size j ≤ size k
unfolding size
size_more zero zero h = omega arith
size_more zero (suc k) h = let i = size_more zero k (omega arith) in omega arith
size_more (suc j) zero h = absurd (omega arith)
size_more (suc j) (suc k) h = let i = size_more j k (omega arith) in omega arith

size_some : (k : ℕ) → 1 ≤ size k
unfolding size
size_some zero = omega arith
size_some (suc k) = omega arith

size_halves : (a b c k : ℕ) → k < 27 → k < a → k < b → c ≤ k → size (27 - a) + size (27 - b) < size (27 - c)
unfolding size
size_halves a b c k h ha hb hc =
    let m = size_more (27 - a) (26 - k) (omega arith) in
    let n = size_more (27 - b) (26 - k) (omega arith) in
    let o = size_more (suc (26 - k)) (27 - c) (omega arith) in
    omega arith

abbrev pub weight : Part → ℕ
weight p = size (27 - p.phase)

unfoldable pub load : List Part → ℕ → ℕ
load st zero = 0
load st (suc k) = weight (get_or st k no_part) + load st k

load_set : (st : List Part) (i k : ℕ) (x : Part) → k ≤ i → load (set st i x) k ≡ load st k
unfolding load
load_set st i zero x h = refl
load_set st i (suc k) x h =
    ap (λ (p : Part). weight p + load (set st i x) k) (get_or-set_other st i k x no_part (λ e. omega arith))
    ∙ ap (λ (n : ℕ). weight (get_or st k no_part) + n) (load_set st i k x (omega arith))

-- ---- the loop's turns: the part on top of n + 1 was run to q
module _ (b : Ranges) (r : Rule) (st : List Part) (k : ℕ) (now next whole : Counted) (q : Part) where
  abbrev top : Part
  top = get_or st k no_part

  module _ (ran : Ran b r top q) (e : next ≡ ended_c q now) (d : drained b r st (suc k) now ≡ whole) where
    pub turn_ends : is_split q.halt ≡ false → drained b r st k next ≡ whole
    unfolding drained
    turn_ends h = ap (drained b r st k) (e ∙ sym (ran_ended b r top q ran now h)) ∙ d

    pub turn_refused : 0 < next.zones.refusal → next ≡ whole
    turn_refused h = by (is_split q.halt) refl
      where
        by : (t : Bool) → is_split q.halt ≡ t → next ≡ whole
        by true s =
            let same = e ∙ split_leaves q now s in
            let h' : 0 < now.zones.refusal = subst (λ (z : Counted). 0 < z.zones.refusal) same h in
            same ∙ sym (drained_sticks b r st (suc k) now h') ∙ d
        by false s = sym (drained_sticks b r st k next h) ∙ turn_ends s

  module _ (room : suc k < length st) where
    -- the two parts of a split put in
    abbrev more : List Part
    more = set (set st k (no_c r q)) (suc k) (yes_c r q)

    more_top : get_or more (suc k) no_part ≡ yes_c r q
    more_top =
        get_or-set_same (set st k (no_c r q)) (suc k) (yes_c r q) no_part
        (subst (λ (n : ℕ). suc k < n) (sym (length-set st k (no_c r q))) room)

    more_next : get_or more k no_part ≡ no_c r q
    more_next =
        get_or-set_other (set st k (no_c r q)) (suc k) k (yes_c r q) no_part (λ e. omega arith)
        ∙ get_or-set_same st k (no_c r q) no_part (omega arith)

    pub turn_splits : Ran b r top q → next ≡ ended_c q now → drained b r st (suc k) now ≡ whole → is_split q.halt ≡ true
        → drained b r more (suc (suc k)) next ≡ whole
    unfolding drained
    turn_splits ran e d h =
        rw (more_top, more_next, e ∙ split_leaves q now h)
        (drained_set b r (set st k (no_c r q)) (suc k) k (yes_c r q) _ (omega arith) ∙ drained_set b r st k k (no_c r q) _ (omega arith)
        ∙ ap (drained b r st k) (sym (ran_split b r top q ran now h)) ∙ d)

    pub waiting_splits : Ran b r top q → Waiting st (suc k) → is_split q.halt ≡ true → Waiting more (suc (suc k))
    waiting_splits ran w h =
        let s = ran.splits h in
        let yes_enough : suc k ≤ (yes_c r q).zone.count = omega (arith, w.0, ran.count, yes_count b r q s.0 s.1) in
        let no_enough : k ≤ (no_c r q).zone.count = omega (arith, w.0, ran.count, no_count b r q s.0 s.1) in
        rw (more_top, more_next) (
          yes_enough,
          yes_live b r q s.0 s.2,
          (
            no_enough,
            no_live b r q s.0 s.2,
            waiting_set (set st k (no_c r q)) (suc k) k (yes_c r q) (omega arith) (waiting_set st k k (no_c r q) (omega arith) w.2),
          ),
        )

    pub load_splits : Ran b r top q → is_split q.halt ≡ true → load more (suc (suc k)) < load st (suc k)
    unfolding load
    load_splits ran h =
        let s = ran.splits h in
        let halves = size_halves (yes_c r q).phase (no_c r q).phase top.phase q.phase s.0 (yes_later b r q s.0)
        (no_later b r q s.0) ran.later in
        let below = load_set (set st k (no_c r q)) (suc k) k (yes_c r q) (omega arith) ∙ load_set st k k (no_c r q) (omega arith) in
        rw (more_top, more_next, below) (omega arith)

pub load_ends : (st : List Part) (k : ℕ) → load st k < load st (suc k)
unfolding load
load_ends st k = let s = size_some (27 - (get_or st k no_part).phase) in omega arith

-- a split finds room: a part that splits has fewer than 24 inequalities
pub room_splits : (b : Ranges) (r : Rule) (st : List Part) (k : ℕ) (q : Part) → Ran b r (get_or st k no_part) q → Waiting st (suc k)
    → is_split q.halt ≡ true → k < 24
room_splits b r st k q ran w h = omega (arith, w.0, ran.count, (ran.splits h).1)

pub start_drained : (b : Ranges) (r : Rule) (z : Zone) (out : Counted) → meant b r (start_c z) out ≡ cut_c b r z out
unfolding meant cut_c
start_drained b r z out = refl

pub start_live : (z : Zone) → Live (start_c z)
start_live z = record { below = refl; early = λ _. omega arith; counted = omega arith }

pub cut_sticks : (b : Ranges) (r : Rule) (z : Zone) (out : Counted) → 0 < out.zones.refusal → out ≡ cut_c b r z out
unfolding cut_c
cut_sticks b r z out h = sym (worked_sticks b (tree_at r 0 z.bounds) 0 z out h)

-- ---- the same as the code has it: n parts, the top one at n - 1
pub record Turned (b : Ranges) (r : Rule) (st : List Part) (n : ℕ) (now whole : Counted) : Type 0 where
  pub few : n ≤ 25
  pub long : length st ≡ 25
  pub waiting : Waiting st n
  pub same : drained b r st n now ≡ whole

-- a turn of the loop: the part on top of the n was run to p, and what was listed became next
pub record Turn (b : Ranges) (r : Rule) (st : List Part) (n : ℕ) (now next whole : Counted) (p : Part) : Type 0 where
  pub top : n ≡ suc (n - 1)
  pub turned : Turned b r st n now whole
  pub ran : Ran b r (get_or st (n - 1) no_part) p
  pub ended : next ≡ ended_c p now

module _ {b : Ranges} {r : Rule} {st : List Part} {n : ℕ} {now next whole : Counted} {p : Part} (t : Turn b r st n now next whole p) where
  abbrev k : ℕ
  k = n - 1

  is_waiting : Waiting st (suc k)
  is_waiting = subst (λ (m : ℕ). Waiting st m) t.top t.turned.waiting

  is_same : drained b r st (suc k) now ≡ whole
  is_same = subst (λ (m : ℕ). drained b r st m now ≡ whole) t.top t.turned.same

  pub ends_turned : is_split p.halt ≡ false → Turned b r st k next whole
  ends_turned h =
      record {
        few = omega (arith, t.turned.few);
        long = t.turned.long;
        waiting = is_waiting.2;
        same = turn_ends b r st k now next whole p t.ran t.ended is_same h;
      }

  pub refused_turned : 0 < next.zones.refusal → next ≡ whole
  refused_turned h = turn_refused b r st k now next whole p t.ran t.ended is_same h

  pub room_turned : is_split p.halt ≡ true → n < 25
  room_turned h = let e = t.top in omega (arith, room_splits b r st k p t.ran is_waiting h)

  module _ (h : is_split p.halt ≡ true) where
    room : suc k < length st
    room = omega (arith, room_splits b r st k p t.ran is_waiting h, t.turned.long)

    core : Turned b r (set (set st k (no_c r p)) (suc k) (yes_c r p)) (suc (suc k)) next whole
    core =
        record {
          few = omega (arith, room_splits b r st k p t.ran is_waiting h);
          long = length-set (set st k (no_c r p)) (suc k) (yes_c r p) ∙ length-set st k (no_c r p) ∙ t.turned.long;
          waiting = waiting_splits b r st k now next whole p room t.ran is_waiting h;
          same = turn_splits b r st k now next whole p room t.ran t.ended is_same h;
        }

    -- as the code has it: the places n - 1 and n, and n + 1 parts
    placed : (P : ℕ → ℕ → Type 0) → P (suc k) (suc (suc k)) → P n (n + 1)
    placed P h = subst (λ (m : ℕ). P m (m + 1)) (sym t.top) (subst (P (suc k)) (sym (add-one (suc k))) h)

    module _ {no yes : Part} (en : no ≡ no_c r p) (ey : yes ≡ yes_c r p) where
      pub splits_turned : Turned b r (set (set st k no) n yes) (n + 1) next whole
      splits_turned = placed (λ i m. Turned b r (set (set st k no) i yes) m next whole) (rw (en, ey) core)

      pub splits_less : load (set (set st k no) n yes) (n + 1) < load st n
      splits_less =
          subst (λ (m : ℕ). load (set (set st k no) n yes) (n + 1) < load st m) (sym t.top)
          (placed (λ i m. load (set (set st k no) i yes) m < load st (suc k))
          (rw (en, ey) (load_splits b r st k now next whole p room t.ran h)))

pub ends_less : (st : List Part) (n k : ℕ) → n ≡ suc k → load st k < load st n
ends_less st n k e = rw e (load_ends st k)

pub start_turned : (b : Ranges) (r : Rule) (z : Zone) (out : Counted) (p : Part) → p ≡ start_c z
    → Turned b r (replicate 25 p) 1 out (drained b r (replicate 25 p) 1 out)
start_turned b r z out p e = record { few = omega arith; long = refl; waiting = (omega arith, rw e (start_live z), tt); same = refl }

pub start_whole : (b : Ranges) (r : Rule) (z : Zone) (out : Counted) (p : Part) → p ≡ start_c z
    → drained b r (replicate 25 p) 1 out ≡ cut_c b r z out
unfolding drained
start_whole b r z out p e = ap (λ (q : Part). meant b r q out) e ∙ start_drained b r z out

pub top_live : (st : List Part) (n k : ℕ) → n ≡ suc k → Waiting st n → Live (get_or st k no_part)
top_live st n k e w = (subst (λ (m : ℕ). Waiting st m) e w).1

pub all_turned : (b : Ranges) (r : Rule) (st : List Part) (n : ℕ) (now whole : Counted) → n ≤ 0 → Turned b r st n now whole → now ≡ whole
unfolding drained
all_turned b r st zero now whole h t = t.same
all_turned b r st (suc n) now whole h t = absurd (omega arith)
