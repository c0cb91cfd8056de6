-- The walk along the route, turn by turn: the pass over the steps of a segment, and what is left of the route behind it.
use Rattle.std.specs.Prelude.{◌≡◌, refl, Bool, true, false, List, [], ◌∷◌, ℕ, zero, suc, ◌+◌, ◌-◌, ◌*◌, ◌≤◌, ◌<◌, ltb, length, get_or, drop}
use Rattle.std.specs.Prelude.{set, replicate}
use Rattle.std.proofs.Common.{sym, ap, subst, ◌∙◌, add-one, arith, ltb-true, ltb-false, length-take, get_or-take}
use Rattle.automaton.specs.declared.Location.{Location}
use Rattle.constrain.specs.declared.rule.Rule.{Rule}
use Rattle.expr.specs.declared.range.Ranges.{Ranges}
use Rattle.parts.specs.declared.part.Part.{Part}
use Rattle.idle.specs.Idle.{Leaves}
use Rattle.parts.specs.Parts.{is_kept, is_split, with_bounds, yes_c, no_c}
use Rattle.passing.specs.Laws.{steps_stick}
use Rattle.passing.specs.Machine.{Machine, no_step, machine_starts, machine_ends, ends_fit, pending_spare, pending_list}
use Rattle.passing.specs.Machine.{turn_stepped, turn_loaded, turn_passed, turn_dropped, turn_listed}
use Rattle.passing.specs.Machine.{turn_split, split_room, less_split, refused_is, number_dropped, number_listed}
use Rattle.passing.specs.Machine.{left, less_stepped, less_loaded, less_passed, less_ended, less_pushed}
use Rattle.passing.specs.State.{begun_c, pushed_c, listed_c, dropped_c, loaded_c, passed_c, stepped_c, number_c, refused_z}
use Rattle.split.specs.Guarded.{rule_c}
use Rattle.split.specs.Stack.{no_part, load}
use Rattle.split.specs.Trees.{Ran}
use Rattle.passing.specs.declared.pass.Pass.{Pass}
use Rattle.segments.specs.Lists.{Lists, stay_steps, move_steps, stay_is, move_is}
use Rattle.segments.specs.SegmentLaws.{steps_in, Ahead, ahead_starts}
use Rattle.segments.proofs.SegmentLaws.{ahead_next}
use Rattle.segments.specs.Segments.{moves_of, size, Segmented}
use Rattle.segments.specs.Walked.{walk_all, start_all, zones_all}
use Rattle.segments.specs.declared.segment.Segment.{Segment}
use Rattle.sheet.specs.Lookup.{location_c, transition_c}
use Rattle.sheet.specs.declared.Sheet.{Sheet}
use Rattle.steps.specs.Steps.{no_zone, closed, steps_all, asks_c, guard_of_c, part_c}
use Rattle.steps.specs.declared.step.Step.{Step}
use Rattle.steps.specs.declared.step.Steps.{Steps}
use Rattle.windows_route.specs.Fewer.{fewer_yes, fewer_no}
use Rattle.windows_route.specs.Known.{Known, no_hint, known_starts, known_again}
use Rattle.windows_route.specs.Known.{known_stepped, known_dropped, known_passed, known_loaded}
use Rattle.windows_route.specs.Known.{known_pushed, known_listed, hinted_bounds, hinted_part}
use Rattle.systems.specs.Boxes.{Narrows}
use Rattle.expr.specs.Records.{range_list}
use Rattle.zones.specs.Fits.{Fewer, hinted_fewer}
use Rattle.zones.specs.Hinted.{exprs_of, Guessed, Hinted}
use Rattle.zones.specs.Zone.{blank_zone}
use Rattle.zones.specs.declared.hint.Hint.{Hint}
use Rattle.zones.specs.declared.zone.Zone.{Zone}
use Rattle.zones.specs.declared.zone.Zones.{Zones}

-- where the walk stands: in segment k, whose steps are taken over the zones; it ends at `here`
pub record Walking (s : Sheet) (end : ℕ) (here : Location) (steps : Steps) (list spare : List Zone) (hints spares : List Hint)
    (stack : List Part) (waits : List Hint) (r : Rule) (p : Pass) (k : ℕ) : Type 0 where
  pub last : end ≡ size s + 2
  pub most : end ≤ 34
  pub at : k ≤ end
  pub counted : steps.count ≡ length (steps_in steps)
  pub none : end ≤ k → steps.count ≡ 0
  pub whole : Zones
  pub machine : Machine s.ranges s.clocks (steps_in steps) whole list spare stack r p
  pub ahead : Ahead s k here whole
  pub known : Known s.ranges list hints spare spares stack waits p

pub counted_is : (ss : Steps) → ss.count ≤ 20 → length ss.list ≡ 20 → ss.count ≡ length (steps_in ss)
counted_is ss h l = omega (arith, length-take ss.count ss.list)

pub step_of : (ss : Steps) (j : ℕ) → j < ss.count → get_or ss.list j no_step ≡ get_or (steps_in ss) j no_step
step_of ss j h = sym (get_or-take ss.count ss.list j no_step h)

-- ---- a refusal sticks
walk_sticks : (s : Sheet) (visit l : ℕ) (ns : List ℕ) (zs : Zones) → 0 < zs.refusal → zs.count ≡ 0 → walk_all s visit l ns zs ≡ zs
unfolding walk_all
walk_sticks s visit l [] zs h n =
    sym (stay_is s.ranges s.clocks (location_c s l) zs)
    ∙ steps_stick s.ranges s.clocks (stay_steps (location_c s l)) zs h n
walk_sticks s visit l (m ∷ ns) zs h n =
    ap (walk_all s (suc visit) (transition_c s m).to ns)
    (sym (move_is s.ranges s.clocks (location_c s l) visit (transition_c s m) (location_c s (transition_c s m).to) zs)
    ∙ steps_stick s.ranges s.clocks (move_steps (location_c s l) visit (transition_c s m) (location_c s (transition_c s m).to)) zs h n)
    ∙ walk_sticks s (suc visit) (transition_c s m).to ns zs h n

pub ahead_refused : (s : Sheet) (k : ℕ) (here : Location) (zs : Zones) → Ahead s k here zs → 0 < zs.refusal → zs.count ≡ 0
    → zs ≡ zones_all s
ahead_refused s k here zs a h n = by (ltb (size s) k) refl
  where
    by : (t : Bool) → ltb (size s) k ≡ t → zs ≡ zones_all s
    by true e = a.over (ltb-true (size s) k e)
    by false e =
        let v = a.moving (ltb-false (size s) k e) in
        sym (walk_sticks s k v.0 (drop k (moves_of s)) zs h n) ∙ v.1.1

-- ---- the start: one zone without inequalities
begin_is : closed (record { refusal = 0; visit = 0; count = 1; list = replicate 32 blank_zone }) ≡ start_all
unfolding start_all
begin_is = refl

pub walking_starts : (s : Sheet) (n : ℕ) (at : Location) (first : Segment) (h g : Hint) (q : Part) (r : Rule) (p : Pass) → n ≡ size s
    → n ≤ 32 → at ≡ location_c s 0 → Segmented s 0 at first → length first.steps.list ≡ 20 → Hinted s.ranges blank_zone h
    → p ≡ begun_c 0 1
    → Walking s (n + 2) first.there first.steps (replicate 32 blank_zone) (replicate 32 blank_zone) (replicate 32 h) (replicate 32 h)
    (replicate 25 q) (replicate 25 g) r p 0
walking_starts s n at first h g q r p e few l f long k ep =
    let size-first = counted_is first.steps f.few long in
    rw ep
    (record {
      last = omega arith;
      most = omega arith;
      at = omega arith;
      counted = size-first;
      none = λ o. absurd (omega arith);
      whole = steps_all s.ranges s.clocks (steps_in first.steps)
          (closed (record { refusal = 0; visit = 0; count = 1; list = replicate 32 blank_zone }));
      machine =
          machine_starts s.ranges s.clocks (steps_in first.steps)
          (record { refusal = 0; visit = 0; count = 1; list = replicate 32 blank_zone }) (replicate 32 blank_zone) (replicate 25 q) r
          (omega (arith, size-first, f.few)) (ends_fit 0 1 (replicate 32 blank_zone) (omega arith)) (omega arith) refl refl refl;
      ahead =
          subst (λ (z : Zones). Ahead s 0 first.there (steps_all s.ranges s.clocks (steps_in first.steps) z)) (sym begin_is)
          (ahead_starts s at first l f);
      known =
          known_starts s.ranges (replicate 32 blank_zone) (replicate 32 blank_zone) (replicate 32 h) (replicate 32 h) (replicate 25 g)
          (replicate 25 q) 0 1 refl refl refl refl refl refl (λ x o. only x o);
    })
  where
    only : (x : ℕ) → x < 1 → Hinted s.ranges (get_or (replicate 32 blank_zone) x no_zone) (get_or (replicate 32 h) x no_hint)
    only zero o = k
    only (suc x) o = absurd (omega arith)

-- ---- one segment more
module _ (s : Sheet) (end : ℕ) (here : Location) (steps : Steps) (list spare : List Zone) (hints spares : List Hint) (stack : List Part)
    (waits : List Hint) (r : Rule) (p : Pass) (k : ℕ) (w : Walking s end here steps list spare hints spares stack waits r p k) where
  -- the zones that the segment leaves
  abbrev reached : Zones
  reached = record { refusal = 0; visit = p.visit; count = p.n; list = list }

  pub reached_is : length (steps_in steps) ≤ p.j → closed reached ≡ w.whole
  reached_is over = machine_ends s.ranges s.clocks (steps_in steps) w.whole list spare stack r p w.machine over

  module _ (over : steps.count ≤ p.j) (go : k < end) (next : Segment) (g : Segmented s (k + 1) here next)
      (long : length next.steps.list ≡ 20) where
    done : length (steps_in steps) ≤ p.j
    done = omega (arith, w.counted)

    size_next : next.steps.count ≡ length (steps_in next.steps)
    size_next = counted_is next.steps g.few long

    abbrev behind : Zones
    behind = steps_all s.ranges s.clocks (steps_in next.steps) (closed reached)

    ahead_there : Ahead s (k + 1) next.there behind
    ahead_there =
        subst (λ (n : ℕ). Ahead s n next.there behind) (sym (add-one k))
        (subst (λ (z : Zones). Ahead s (suc k) next.there (steps_all s.ranges s.clocks (steps_in next.steps) z))
        (sym (reached_is done))
        (ahead_next s k here w.whole w.ahead next (subst (λ (n : ℕ). Segmented s n here next) (add-one k) g)))

    no_steps : Lists 20 [] next.steps → next.steps.count ≡ 0
    no_steps l = size_next ∙ ap length l.same

    pub walking_next : Walking s end next.there next.steps list spare hints spares stack waits r (begun_c p.visit p.n) (k + 1)
    walking_next =
        record {
          last = w.last;
          most = w.most;
          at = omega arith;
          counted = size_next;
          none = λ h. no_steps (g.ends (omega (arith, w.last)));
          whole = behind;
          machine =
              machine_starts s.ranges s.clocks (steps_in next.steps) reached spare stack r (omega (arith, size_next, g.few))
              (ends_fit p.visit p.n list w.machine.few) (omega arith) w.machine.long w.machine.spare_long
              w.machine.turned.long;
          ahead = ahead_there;
          known =
              known_again s.ranges list hints spare spares stack waits p w.known p.visit (w.machine.new done)
              (w.machine.fresh done);
        }

  -- behind the last segment
  pub walking_ends : end ≤ k → closed reached ≡ zones_all s
  walking_ends h =
      reached_is (omega (arith, w.counted, w.none h)) ∙ w.ahead.over (omega (arith, w.last))

-- ---- what is left of the way
abbrev pub way : ℕ → ℕ → Steps → List Part → Pass → ℕ
way end k steps stack p = (end - k) * 200000000000 + left (steps_in steps) stack p

-- a segment is done, and the next one has at most 20 steps for at most 32 zones
load_none : (stack : List Part) → load stack 0 ≡ 0
unfolding load
load_none stack = refl

pub less_next : (end k : ℕ) (steps next : Steps) (stack : List Part) (p : Pass) → k < end → next.count ≤ 20 → p.n ≤ 32
    → length (steps_in next) ≡ next.count → way end (k + 1) next stack (begun_c p.visit p.n) < way end k steps stack p
less_next end k steps next stack p h few n l = let z = load_none stack in omega arith

-- ---- the turns of a segment
-- a part is run to q, and h is known of its zone then
pub record Run (s : Sheet) (end : ℕ) (here : Location) (steps : Steps) (list spare : List Zone) (hints spares : List Hint) (stack :
    List Part)
    (waits : List Hint) (r : Rule) (p : Pass) (k : ℕ) (h : Hint) (q : Part) : Type 0 where
  pub w : Walking s end here steps list spare hints spares stack waits r p k
  pub go : p.j < steps.count
  pub busy : 0 < p.depth
  pub ran : (b : Ranges) → Hinted b (get_or stack (p.depth - 1) no_part).zone (get_or waits (p.depth - 1) no_hint)
      → Ran b r (get_or stack (p.depth - 1) no_part) q
  pub same : q.zone ≡ with_bounds (get_or stack (p.depth - 1) no_part).zone q.zone.bounds
  pub known : (b : Ranges) → Hinted b (get_or stack (p.depth - 1) no_part).zone (get_or waits (p.depth - 1) no_hint)
      → Hinted b (get_or stack (p.depth - 1) no_part).zone h

-- no part waits, and st is the step
pub record Free (s : Sheet) (end : ℕ) (here : Location) (steps : Steps) (list spare : List Zone) (hints spares : List Hint) (stack :
    List Part)
    (waits : List Hint) (r : Rule) (p : Pass) (k : ℕ) (st : Step) : Type 0 where
  pub w : Walking s end here steps list spare hints spares stack waits r p k
  pub go : p.j < steps.count
  pub idle : p.depth ≤ 0
  pub step : st ≡ get_or steps.list p.j no_step

-- the walk stands as before, but for the pass
keep : {s : Sheet} {end : ℕ} {here : Location} {steps : Steps} {list spare : List Zone} {hints spares : List Hint} {stack : List Part}
    {waits : List Hint} {r : Rule} {p : Pass} {k : ℕ}
    → (w : Walking s end here steps list spare hints spares stack waits r p k)
    → (list' spare' : List Zone) (hints' spares' : List Hint) (stack' : List Part) (waits' : List Hint) (r' : Rule) (p' : Pass)
    → Machine s.ranges s.clocks (steps_in steps) w.whole list' spare' stack' r' p'
    → Known s.ranges list' hints' spare' spares' stack' waits' p'
    → Walking s end here steps list' spare' hints' spares' stack' waits' r' p' k
keep w list' spare' hints' spares' stack' waits' r' p' m n =
    record {
      last = w.last;
      most = w.most;
      at = w.at;
      counted = w.counted;
      none = w.none;
      whole = w.whole;
      machine = m;
      ahead = w.ahead;
      known = n;
    }

module _ {s : Sheet} {end : ℕ} {here : Location} {steps : Steps} {list spare : List Zone} {hints spares : List Hint} {stack : List Part}
    {waits : List Hint} {r : Rule} {p : Pass} {k : ℕ} {h : Hint} {q : Part}
    (t : Run s end here steps list spare hints spares stack waits r p k h q) where
  abbrev w : Walking s end here steps list spare hints spares stack waits r p k
  w = t.w

  inside : p.j < length (steps_in steps)
  inside = omega (arith, t.go, w.counted)

  top_hinted : Hinted s.ranges (get_or stack (p.depth - 1) no_part).zone (get_or waits (p.depth - 1) no_hint)
  top_hinted = w.known.waiting (p.depth - 1) (omega (arith, t.busy))

  end_hinted : Hinted s.ranges q.zone h
  end_hinted =
      hinted_bounds s.ranges (get_or stack (p.depth - 1) no_part).zone q.zone q.zone.bounds h t.same
      (t.known s.ranges top_hinted)

  told : Ran s.ranges r (get_or stack (p.depth - 1) no_part) q
  told = t.ran s.ranges top_hinted

  pub refused_ends : (n : ℕ) → n ≡ number_c q.halt p.kept → 0 < n → refused_z n p.visit ≡ zones_all s
  refused_ends n e g =
      let is : closed (refused_z n p.visit) ≡ w.whole =
      refused_is _ _ _ _ list spare stack r p w.machine inside t.busy q told n e g in
      is ∙ ahead_refused s k here w.whole w.ahead (subst (λ (z : Zones). 0 < z.refusal) is g)
      (subst (λ (z : Zones). z.count ≡ 0) is refl)

  module _ (quiet : number_c q.halt p.kept ≤ 0) where
    pub walking_dropped : is_split q.halt ≡ false → is_kept q.halt ≡ false → (p' : Pass) → p' ≡ dropped_c p
        → Walking s end here steps list spare hints spares stack waits r p' k
    walking_dropped a c p' e =
        rw e
        (keep w list spare hints spares stack waits r (dropped_c p)
        (turn_dropped _ _ _ _ list spare stack r p w.machine inside t.busy q told (number_dropped q.halt p.kept quiet a c))
        (known_dropped s.ranges list hints spare spares stack waits p w.known))

    pub room_listed : is_kept q.halt ≡ true → p.kept < 32
    room_listed e = number_listed q.halt p.kept quiet e

    pub walking_listed : is_kept q.halt ≡ true → (p' : Pass) → p' ≡ listed_c p
        → Walking s end here steps (set list p.kept q.zone) (set spare p.kept (get_or list p.kept no_zone))
        (set hints p.kept h) (set spares p.kept (get_or hints p.kept no_hint)) stack waits r p' k
    walking_listed f p' e =
        rw e
        (keep w _ _ _ _ stack waits r (listed_c p)
        (turn_listed _ _ _ _ list spare stack r p w.machine inside t.busy q told f (room_listed f))
        (known_listed s.ranges list hints spare spares stack waits p w.known q.zone h end_hinted (room_listed f)))

  pub room_split : is_split q.halt ≡ true → p.depth < 25
  room_split e = split_room _ _ _ _ list spare stack r p w.machine inside t.busy q told e

  module _ (f : is_split q.halt ≡ true) (no yes : Part) (hn : no ≡ no_c r q) (hy : yes ≡ yes_c r q) where
    abbrev more : List Part
    more = set (set stack (p.depth - 1) no) (p.depth - 1 + 1) yes

    fewer : (y z : Part) → y ≡ z → Fewer z.zone q.zone → (g : Hint)
        → Narrows (exprs_of y.zone) (range_list s.ranges) (range_list g.ranges) → Guessed y.zone g
        → g.nogoods ≡ h.nogoods → Hinted s.ranges y.zone g
    fewer y z e f g n held same =
        hinted_fewer s.ranges q.zone y.zone h g (subst (λ (x : Part). Fewer x.zone q.zone) (sym e) f) end_hinted n held
        same

    pub walking_split : (g i : Hint) → Narrows (exprs_of no.zone) (range_list s.ranges) (range_list g.ranges)
        → Guessed no.zone g → g.nogoods ≡ h.nogoods
        → Narrows (exprs_of yes.zone) (range_list s.ranges) (range_list i.ranges) → Guessed yes.zone i
        → i.nogoods ≡ h.nogoods → (p' : Pass) → p' ≡ pushed_c p
        → Walking s end here steps list spare hints spares more (set (set waits (p.depth - 1) g) (p.depth - 1 + 1) i) r p' k
    walking_split g i ng dg sg ni di si p' e =
        rw e
        (keep w list spare hints spares more (set (set waits (p.depth - 1) g) (p.depth - 1 + 1) i) r (pushed_c p)
        (turn_split _ _ _ _ list spare stack r p w.machine inside t.busy q told f no yes hn hy)
        (known_pushed s.ranges list hints spare spares stack waits p w.known no yes g i (p.depth - 1) (omega (arith, t.busy))
        (room_split f) (fewer no (no_c r q) hn (fewer_no r q) g ng dg sg) (fewer yes (yes_c r q) hy (fewer_yes r q) i ni di si)))

    pub way_split : (p' : Pass) → p' ≡ pushed_c p → way end k steps more p' < way end k steps stack p
    way_split p' e =
        rw e
        (let l = less_pushed (steps_in steps) stack more p (less_split _ _ _ _ list spare stack r p w.machine inside t.busy q
        told f no yes
        hn hy) in
        omega arith)

  pub way_dropped : (p' : Pass) → p' ≡ dropped_c p → way end k steps stack p' < way end k steps stack p
  way_dropped p' e = rw e (let l = less_ended (steps_in steps) stack p p.kept t.busy in omega arith)

  pub way_listed : (p' : Pass) → p' ≡ listed_c p → way end k steps stack p' < way end k steps stack p
  way_listed p' e = rw e (let l = less_ended (steps_in steps) stack p (p.kept + 1) t.busy in omega arith)

module _ {s : Sheet} {end : ℕ} {here : Location} {steps : Steps} {list spare : List Zone} {hints spares : List Hint} {stack : List Part}
    {waits : List Hint} {r : Rule} {p : Pass} {k : ℕ} {st : Step}
    (t : Free s end here steps list spare hints spares stack waits r p k st) where
  abbrev u : Walking s end here steps list spare hints spares stack waits r p k
  u = t.w

  in_steps : p.j < length (steps_in steps)
  in_steps = omega (arith, t.go, u.counted)

  told_step : st ≡ get_or (steps_in steps) p.j no_step
  told_step = t.step ∙ step_of steps p.j t.go

  pub walking_stepped : p.n ≤ p.i → (p' : Pass) → p' ≡ stepped_c p st
      → Walking s end here steps list spare hints spares stack waits r p' k
  walking_stepped over p' e =
      rw e
      (keep u list spare hints spares stack waits r (stepped_c p st)
      (turn_stepped _ _ _ _ list spare stack r p u.machine st in_steps told_step t.idle over)
      (known_stepped s.ranges list hints spare spares stack waits p u.known st))

  pub way_stepped : (p' : Pass) → p' ≡ stepped_c p st → way end k steps stack p' < way end k steps stack p
  way_stepped p' e = rw e (let l = less_stepped (steps_in steps) stack p st in_steps u.machine.room in omega arith)

  module _ (more : p.i < p.n) where
    pub walking_passed : p.i ≡ p.kept → (y : Zone) (h : Hint) → Leaves s.ranges s.clocks st (get_or list p.i no_zone) y
        → Hinted s.ranges y h → (p' : Pass) → p' ≡ passed_c p
        → Walking s end here steps (set list p.kept y) spare (set hints p.kept h) spares stack waits r p' k
    walking_passed there y h leaves known p' e =
        rw e
        (keep u (set list p.kept y) spare (set hints p.kept h) spares stack waits r (passed_c p)
        (turn_passed _ _ _ _ list spare stack r p u.machine st in_steps told_step t.idle more there (get_or list p.i no_zone) refl
        y leaves.tests leaves.same)
        (known_passed s.ranges list hints spare spares stack waits p u.known there more (omega (arith, u.machine.few)) y h known))

    pub way_passed : (p' : Pass) → p' ≡ passed_c p → way end k steps stack p' < way end k steps stack p
    way_passed p' e = rw e (let l = less_passed (steps_in steps) stack p more in omega arith)

    -- the zone that is taken up, and its hint
    pub record Taken (z : Zone) (h : Hint) : Type 0 where
      pub zone : z ≡ get_or u.machine.full p.i no_zone
      pub hint : Hinted s.ranges z h

    pub taken_spare : p.i < p.kept → Taken (get_or spare p.i no_zone) (get_or spares p.i no_hint)
    taken_spare h =
        record {
          zone = pending_spare _ _ _ _ list spare stack r p u.machine h;
          hint = u.known.spared p.i (omega arith) more h;
        }

    pub taken_list : p.kept ≤ p.i → Taken (get_or list p.i no_zone) (get_or hints p.i no_hint)
    taken_list h =
        record {
          zone = pending_list _ _ _ _ list spare stack r p u.machine h;
          hint = u.known.ahead p.i (omega arith) more h;
        }

    pub walking_loaded : (z : Zone) (h : Hint) → Taken z h → (q : Part) → q ≡ part_c st s.clocks z → (r' : Rule)
        → (asks_c st ≡ true → r' ≡ rule_c s.clocks (guard_of_c st) z) → (p' : Pass) → p' ≡ loaded_c p
        → Walking s end here steps list spare hints spares (set stack 0 q) (set waits 0 h) r' p' k
    walking_loaded z h took q hq r' hr p' e =
        rw e
        (keep u list spare hints spares (set stack 0 q) (set waits 0 h) r' (loaded_c p)
        (turn_loaded _ _ _ _ list spare stack r p u.machine st in_steps told_step t.idle more z took.zone q hq r' hr)
        (known_loaded s.ranges list hints spare spares stack waits p u.known q h
        (subst (λ (y : Part). Hinted s.ranges y.zone h) (sym hq) (hinted_part s.ranges st s.clocks z h took.hint))))

    pub way_loaded : (q : Part) (p' : Pass) → p' ≡ loaded_c p → way end k steps (set stack 0 q) p' < way end k steps stack p
    way_loaded q p' e = rw e (let l = less_loaded (steps_in steps) stack p q u.machine.turned.long more in omega arith)
