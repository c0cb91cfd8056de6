-- A pass over zones, turn by turn: what is still to come of it stays the same.
use Rattle.std.specs.Prelude.{◌≡◌, Bool, true, false, cond, ℕ, zero, suc, ◌+◌, ◌-◌, ◌*◌, ◌≤◌, ◌<◌, min, ltb, eqb, length, get_or, drop, set, replicate}
use Rattle.std.proofs.Math.Path.{refl, ap, subst}
use Rattle.std.proofs.Common.{sym, ◌∙◌, add-one, true≢false, length-take, length-drop, length-append, drop_of_length-le, drop-cons, get_or-take, get_or-drop, get_or-append-add, get_or-set_same, ext_get_or}
use mathlib.Core.List.{List, [], ◌∷◌, ◌++◌}
use native.Mathlib.Omega.{arith}
use borrow.Author.Tests.{lt-ltb, le-ltb, ltb-true, ltb-false, eqb-true}
use Rattle.std.proofs.Math.ListN.{take, length-set, get_or-append}
use Rattle.constrain.specs.declared.rule.Rule.{Rule}
use Rattle.expr.specs.declared.range.Ranges.{Ranges}
use Rattle.parts.specs.Numbers.{large_halt}
use Rattle.parts.specs.Parts.{is_kept, is_split, halt_of, yes_c, no_c}
use Rattle.parts.specs.declared.part.Halt.{Halt}
use Rattle.parts.specs.declared.part.Halt.TheVariants as stops
use Rattle.parts.specs.declared.part.Part.{Part}
use Rattle.split.specs.Guarded.{rule_c}
use Rattle.split.specs.Listed.{none_at, refused_c, list_c}
use Rattle.split.specs.Runs.{split_leaves}
use Rattle.split.specs.Stack.{Turned, Turn, drained, load, size, size_more, no_part, all_turned, ends_turned, refused_turned, room_turned}
use Rattle.split.specs.Stack.{splits_turned, splits_less, ends_less, start_live}
use Rattle.split.specs.Trees.{start_c, ended_by, ended_c, meant, Live, Ran}
use Rattle.split.specs.declared.list.Counted.{Counted}
use Rattle.passing.specs.Laws.{plain, pass_one, pass_all, done, append_assoc, kept_by, one_kept, list_plain, none_plain, step_is}
use Rattle.passing.specs.Laws.{pass_sticks, done_sticks, steps_stick}
use Rattle.steps.specs.Places.{drop_set, take_more}
use Rattle.passing.specs.State.{begun_c, pushed_c, listed_c, dropped_c, loaded_c, passed_c, visit_after_c, stepped_c, number_c, refused_z}
use Rattle.steps.specs.Steps.{no_zone, Fit, closed, at_visit, steps_all, kept_c, changed_c, asks_c, guard_of_c, part_c}
use Rattle.passing.specs.declared.pass.Pass.{Pass}
use Rattle.steps.specs.declared.step.Step.{Step}
use Rattle.steps.specs.declared.step.Step.TheVariants as step
use Rattle.zones.specs.Zone.{blank_zone}
use Rattle.zones.specs.declared.zone.Zone.{Zone}
use Rattle.zones.specs.declared.zone.Zones.{Zones}

-- what is read past the steps' end
abbrev pub no_step : Step
no_step = step.Delay

-- what comes of the steps that are left, the first of which has taken up i of the n first zones of full and come to o so far
unfoldable pub rest : Ranges → ℕ → List Step → ℕ → ℕ → ℕ → List Zone → Counted → Zones
rest b w [] v n i full o = plain v (take n full)
rest b w (st ∷ ss) v n i full o = steps_all b w ss (done st (pass_all b w st (drop i (take n full)) o).zones)

rest_ahead : (b : Ranges) (w : ℕ) (ss : List Step) (v n i : ℕ) (k l : List Zone) (o : Counted) → 0 < length ss
    → drop i (take n k) ≡ drop i (take n l) → rest b w ss v n i k o ≡ rest b w ss v n i l o
unfolding rest
rest_ahead b w [] v n i k l o h e = absurd (omega arith)
rest_ahead b w (st ∷ ss) v n i k l o h e = ap (λ (x : List Zone). steps_all b w ss (done st (pass_all b w st x o).zones)) e

-- where a pass over the steps ss stands, and what it comes to
pub record Machine (b : Ranges) (w : ℕ) (ss : List Step) (whole : Zones) (list spare : List Zone) (stack : List Part) (r : Rule) (s : Pass)
    : Type 0 where
  pub most : length ss ≤ 20
  pub at : s.j ≤ length ss
  pub few : s.n ≤ 32
  pub taken : s.i ≤ s.n
  pub room : s.kept ≤ 32
  pub fresh : length ss ≤ s.j → s.kept ≡ 0
  pub new : length ss ≤ s.j → s.i ≡ 0
  pub long : length list ≡ 32
  pub spare_long : length spare ≡ 32
  pub full : List Zone
  pub full_long : length full ≡ 32
  pub merged : take s.kept spare ++ drop s.kept list ≡ full
  pub out : Counted
  pub shown : out.zones ≡ plain s.visit (take s.kept list)
  pub worth : Counted
  pub turned : Turned b r stack s.depth out worth
  pub same : rest b w (drop s.j ss) s.visit s.n s.i full worth ≡ whole

-- ---- before a step
taken_long : {A : Type 0} (n k : ℕ) (l : List A) → length l ≡ k → n ≤ k → length (take n l) ≡ n
taken_long n k l h g = length-take n l ∙ ap (min n) h ∙ least n k g
  where
    least : (n k : ℕ) → n ≤ k → min n k ≡ n
    least n k g = omega arith

pub rest_starts : (b : Ranges) (w : ℕ) (ss : List Step) (v n : ℕ) (full : List Zone) → length full ≡ 32 → n ≤ 32
    → rest b w ss v n 0 full (none_at v) ≡ steps_all b w ss (plain v (take n full))
unfolding rest steps_all
rest_starts b w [] v n full h g = refl
rest_starts b w (st ∷ ss) v n full h g =
    let few : length (take n full) ≤ 32 = omega (arith, taken_long n 32 full h g) in
    ap (steps_all b w ss) (sym (step_is b w st v (take n full) few))

-- nothing waits
empty : (b : Ranges) (r : Rule) (stack : List Part) (out : Counted) → length stack ≡ 25 → Turned b r stack 0 out out
unfolding drained
empty b r stack out h = record { few = omega arith; long = h; waiting = tt; same = refl }

pub machine_starts : (b : Ranges) (w : ℕ) (ss : List Step) (zs : Zones) (spare : List Zone) (stack : List Part) (r : Rule)
    → length ss ≤ 20 → Fit zs → zs.refusal ≤ 0 → length zs.list ≡ 32 → length spare ≡ 32 → length stack ≡ 25
    → Machine b w ss (steps_all b w ss (closed zs)) zs.list spare stack r (begun_c zs.visit zs.count)
machine_starts b w ss zs spare stack r few fit none long spare_long stack_long =
    let no : zs.refusal ≡ 0 = omega arith in
    let size = taken_long zs.count 32 zs.list long fit.few in
    record {
      most = few;
      at = omega arith;
      few = fit.few;
      taken = omega arith;
      room = omega arith;
      fresh = λ _. refl;
      new = λ _. refl;
      long = long;
      spare_long = spare_long;
      full = zs.list;
      full_long = long;
      merged = refl;
      out = none_at zs.visit;
      shown = none_plain zs.visit;
      worth = none_at zs.visit;
      turned = empty b r stack (none_at zs.visit) stack_long;
      same =
          rest_starts b w ss zs.visit zs.count zs.list long fit.few
          ∙ ap (steps_all b w ss) (rw (size, no) refl);
    }

-- ---- lists with places spared
get_d_left : (n i : ℕ) (k l : List Zone) → length k ≡ n → i < n → get_or (k ++ l) i no_zone ≡ get_or k i no_zone
get_d_left n i k l h g = get_or-append k l no_zone i (omega (arith, h))

get_d_right : (n i : ℕ) (k l : List Zone) → length k ≡ n → n ≤ i → get_or (k ++ l) i no_zone ≡ get_or l (i - n) no_zone
get_d_right n i k l h g =
    let there : length k + (i - n) ≡ i = omega (arith, h) in
    ap (λ (x : ℕ). get_or (k ++ l) x no_zone) (sym there) ∙ get_or-append-add k l (i - n) no_zone

spared_at : (n i : ℕ) (spare list full : List Zone) → length spare ≡ 32 → n ≤ 32 → take n spare ++ drop n list ≡ full → i < n
    → get_or spare i no_zone ≡ get_or full i no_zone
spared_at n i spare list full h g e k =
    sym (get_or-take n spare i no_zone k)
    ∙ sym (get_d_left n i (take n spare) (drop n list) (taken_long n 32 spare h g) k)
    ∙ ap (λ (l : List Zone). get_or l i no_zone) e

listed_at : (n i : ℕ) (spare list full : List Zone) → length spare ≡ 32 → n ≤ 32 → take n spare ++ drop n list ≡ full → n ≤ i
    → get_or list i no_zone ≡ get_or full i no_zone
listed_at n i spare list full h g e k =
    let there : n + (i - n) ≡ i = omega arith in
    ap (λ (x : ℕ). get_or list x no_zone) (sym there)
    ∙ sym (get_or-drop n list (i - n) no_zone)
    ∙ sym (get_d_right n i (take n spare) (drop n list) (taken_long n 32 spare h g) k)
    ∙ ap (λ (l : List Zone). get_or l i no_zone) e

merged_more : (n : ℕ) (spare list full : List Zone) (z : Zone) → length spare ≡ 32 → length list ≡ 32 → n < 32
    → take n spare ++ drop n list ≡ full
    → take (suc n) (set spare n (get_or list n no_zone)) ++ drop (suc n) (set list n z) ≡ full
merged_more n spare list full z hs hl h e =
    ap (λ (k : List Zone). k ++ drop (suc n) (set list n z)) (take_more n spare (get_or list n no_zone) (omega (arith, hs)))
    ∙ ap (λ (k : List Zone). (take n spare ++ get_or list n no_zone ∷ []) ++ k) (drop_set n list z)
    ∙ append_assoc (take n spare) (get_or list n no_zone ∷ []) (drop (suc n) list)
    ∙ ap (λ (k : List Zone). take n spare ++ k) (sym (drop-cons list n no_zone (omega (arith, hl))))
    ∙ e

-- what is not taken up yet does not change where the places before it do
ahead_same : (i n : ℕ) (k l : List Zone) → length k ≡ 32 → length l ≡ 32 → ((x : ℕ) → i ≤ x → get_or k x no_zone ≡ get_or l x no_zone)
    → drop i (take n k) ≡ drop i (take n l)
ahead_same i n k l hk hl h =
    ext_get_or no_zone (drop i (take n k)) (drop i (take n l)) (sizes k hk ∙ sym (sizes l hl))
    (λ x g. at k hk x g ∙ h (i + x) (omega arith) ∙ sym (at l hl x (subst (λ (m : ℕ). x < m) (sizes k hk ∙ sym (sizes l hl)) g)))
  where
    sizes : (k : List Zone) → length k ≡ 32 → length (drop i (take n k)) ≡ min n 32 - i
    sizes k e = length-drop i (take n k) ∙ ap (λ (m : ℕ). m - i) (length-take n k ∙ ap (min n) e)

    at : (k : List Zone) (e : length k ≡ 32) (x : ℕ) → x < length (drop i (take n k))
        → get_or (drop i (take n k)) x no_zone ≡ get_or k (i + x) no_zone
    at k e x g = get_or-drop i (take n k) x no_zone ∙ get_or-take n k (i + x) no_zone (omega (arith, sizes k e))

-- the places before i of a list are given up
module _ (n i : ℕ) (spare list full : List Zone) (hs : length spare ≡ 32) (hl : length list ≡ 32) (hf : length full ≡ 32) (h : n < 32)
    (late : n < i) (e : take n spare ++ drop n list ≡ full) where
  abbrev given : List Zone
  given = take (suc n) spare ++ drop (suc n) list

  given_long : length given ≡ 32
  given_long =
      let a = length-append (take (suc n) spare) (drop (suc n) list) in
      let t = taken_long (suc n) 32 spare hs (omega arith) in
      let d = length-drop (suc n) list in
      omega arith

  given_ahead : (m : ℕ) → drop i (take m given) ≡ drop i (take m full)
  given_ahead m = ahead_same i m given full given_long hf (λ x g.
      sym (listed_at (suc n) x spare list given hs (omega arith) refl (omega arith)) ∙ listed_at n x spare list full hs (omega
      arith) e (omega arith))

pass_none : (b : Ranges) (w : ℕ) (st : Step) (out : Counted) → pass_all b w st [] out ≡ out
unfolding pass_all
pass_none b w st out = refl

pass_cons : (b : Ranges) (w : ℕ) (st : Step) (z : Zone) (l : List Zone) (out : Counted)
    → pass_all b w st (z ∷ l) out ≡ pass_all b w st l (pass_one b w st z out)
unfolding pass_all
pass_cons b w st z l out = refl

-- where nothing is asked the rule does not matter
rule_any : (b : Ranges) (w : ℕ) (st : Step) (z : Zone) (q : Rule) → (asks_c st ≡ true → q ≡ rule_c w (guard_of_c st) z) → (out : Counted)
    → meant b q (part_c st w z) out ≡ pass_one b w st z out
rule_any b w st z q h out = by (asks_c st) refl
  where
    by : (t : Bool) → asks_c st ≡ t → meant b q (part_c st w z) out ≡ pass_one b w st z out
    by true a = ap (λ (x : Rule). meant b x (part_c st w z) out) (h a)
    by false a = kept_by b w st a z q out ∙ sym (one_kept b w st a z out)

-- what a step makes of a zone waits for its turn
part_live : (st : Step) (w : ℕ) (z : Zone) → Live (part_c st w z)
unfolding part_c
part_live st w z = by (asks_c st)
  where
    by : (t : Bool) → Live (cond t (start_c z) (kept_c (changed_c st w z)))
    by true = start_live z
    by false = record { below = refl; early = λ h. absurd (true≢false (sym h)); counted = omega arith }

-- ---- the turns
module _ (b : Ranges) (w : ℕ) (ss : List Step) (whole : Zones) (list spare : List Zone) (stack : List Part) (r : Rule) (s : Pass)
    (m : Machine b w ss whole list spare stack r s) where
  -- the zone that is taken up next
  pub pending_spare : s.i < s.kept → get_or spare s.i no_zone ≡ get_or m.full s.i no_zone
  pending_spare h = spared_at s.kept s.i spare list m.full m.spare_long m.room m.merged h

  pub pending_list : s.kept ≤ s.i → get_or list s.i no_zone ≡ get_or m.full s.i no_zone
  pending_list h = listed_at s.kept s.i spare list m.full m.spare_long m.room m.merged h

  -- nothing waits: what was listed is all
  all_out : s.depth ≤ 0 → m.out ≡ m.worth
  all_out h = all_turned b r stack s.depth m.out m.worth h m.turned

  module _ (st : Step) (go : s.j < length ss) (hs : st ≡ get_or ss s.j no_step) where
    -- this step, and those after it
    steps_left : drop s.j ss ≡ st ∷ drop (suc s.j) ss
    steps_left = drop-cons ss s.j no_step go ∙ ap (λ (x : Step). x ∷ drop (suc s.j) ss) (sym hs)

    now_same : steps_all b w (drop (suc s.j) ss) (done st (pass_all b w st (drop s.i (take s.n m.full)) m.worth
        ).zones) ≡ whole
    unfolding rest
    now_same =
        subst (λ (x : List Step). rest b w x s.visit s.n s.i m.full m.worth ≡ whole) steps_left m.same

    -- the same with other zones taken up
    rest_now : (i : ℕ) (o : Counted)
        → steps_all b w (drop (suc s.j) ss) (done st (pass_all b w st (drop i (take s.n m.full)) o).zones) ≡ whole
        → rest b w (drop s.j ss) s.visit s.n i m.full o ≡ whole
    unfolding rest
    rest_now i o h = subst (λ (x : List Step). rest b w x s.visit s.n i m.full o ≡ whole) (sym steps_left) h

    -- the step is done
    module _ (idle : s.depth ≤ 0) (over : s.n ≤ s.i) where
      abbrev next : Pass
      next = stepped_c s st

      none_left : drop s.i (take s.n m.full) ≡ []
      none_left =
          let size = taken_long s.n 32 m.full m.full_long m.few in
          let short : length (take s.n m.full) ≤ s.i = omega arith in
          drop_of_length-le (take s.n m.full) short

      done_plain : done st m.out.zones ≡ plain next.visit (take s.kept list)
      unfolding done at_visit
      done_plain = rw m.shown (by st)
        where
          l : List Zone
          l = take s.kept list

          by : (st : Step) → done st (plain s.visit l) ≡ plain (visit_after_c st s.visit) l
          by step.Delay = refl
          by (step.Guard g) = refl
          by (step.Resets bits visit) = refl

      after_all : steps_all b w (drop (suc s.j) ss) (plain next.visit (take s.kept list)) ≡ whole
      after_all =
          ap (steps_all b w (drop (suc s.j) ss))
          (sym done_plain ∙ ap (λ (o : Counted). done st o.zones) (all_out idle ∙ sym (pass_none b w st m.worth))
          ∙ ap (λ (l : List Zone). done st (pass_all b w st l m.worth).zones) (sym none_left))
          ∙ now_same

      pub turn_stepped : Machine b w ss whole list spare stack r next
      turn_stepped =
          record {
            most = m.most;
            at = omega arith;
            few = m.room;
            taken = omega arith;
            room = omega arith;
            fresh = λ _. refl;
            new = λ _. refl;
            long = m.long;
            spare_long = m.spare_long;
            full = list;
            full_long = m.long;
            merged = refl;
            out = none_at next.visit;
            shown = none_plain next.visit;
            worth = none_at next.visit;
            turned = empty b r stack (none_at next.visit) m.turned.long;
            same =
                ap (λ (x : ℕ). rest b w (drop x ss) next.visit s.kept 0 list (none_at next.visit)) (add-one s.j)
                ∙ rest_starts b w (drop (suc s.j) ss) next.visit s.kept list m.long m.room
                ∙ after_all;
          }

    -- a zone is taken up
    module _ (idle : s.depth ≤ 0) (more : s.i < s.n) (z : Zone) (hz : z ≡ get_or m.full s.i no_zone) (p : Part) (hp : p ≡
        part_c st w z)
        (q : Rule) (hq : asks_c st ≡ true → q ≡ rule_c w (guard_of_c st) z) where
      first_left : drop s.i (take s.n m.full) ≡ z ∷ drop (suc s.i) (take s.n m.full)
      first_left =
          let size = taken_long s.n 32 m.full m.full_long m.few in
          let inside : s.i < length (take s.n m.full) = omega arith in
          drop-cons (take s.n m.full) s.i no_zone inside
          ∙ ap (λ (x : Zone). x ∷ drop (suc s.i) (take s.n m.full)) (get_or-take s.n m.full s.i no_zone more ∙ sym hz)

      first_worth : pass_all b w st (drop (suc s.i) (take s.n m.full)) (pass_one b w st z m.out)
          ≡ pass_all b w st (drop s.i (take s.n m.full)) m.worth
      first_worth =
          sym (pass_cons b w st z (drop (suc s.i) (take s.n m.full)) m.out)
          ∙ ap (λ (l : List Zone). pass_all b w st l m.out) (sym first_left)
          ∙ ap (pass_all b w st (drop s.i (take s.n m.full))) (all_out idle)

      first_place : get_or (set stack 0 p) 0 no_part ≡ p
      first_place = get_or-set_same stack 0 p no_part (omega (arith, m.turned.long))

      taken_up : Turned b q (set stack 0 p) 1 m.out (pass_one b w st z m.out)
      unfolding drained
      taken_up =
          record {
            few = omega arith;
            long = length-set stack 0 p ∙ m.turned.long;
            waiting = rw (first_place ∙ hp) (omega arith, part_live st w z, tt);
            same =
                ap (λ (x : Part). meant b q x m.out) (first_place ∙ hp)
                ∙ rule_any b w st z q hq m.out;
          }

      pub turn_loaded : Machine b w ss whole list spare (set stack 0 p) q (loaded_c s)
      turn_loaded =
          record {
            most = m.most;
            at = m.at;
            few = m.few;
            taken = omega arith;
            room = m.room;
            fresh = m.fresh;
            new = λ e. absurd (omega arith);
            long = m.long;
            spare_long = m.spare_long;
            full = m.full;
            full_long = m.full_long;
            merged = m.merged;
            out = m.out;
            shown = m.shown;
            worth = pass_one b w st z m.out;
            turned = taken_up;
            same = rest_now (s.i + 1) (pass_one b w st z m.out) (ap_next ∙ now_same);
          }
        where
          ap_next : steps_all b w (drop (suc s.j) ss)
              (done st (pass_all b w st (drop (s.i + 1) (take s.n m.full)) (pass_one b w st z m.out)).zones)
              ≡ steps_all b w (drop (suc s.j) ss) (done st (pass_all b w st (drop s.i (take s.n m.full)) m.worth).zones)
          ap_next =
              ap (λ (x : ℕ). steps_all b w (drop (suc s.j) ss) (done st (pass_all b w st (drop x (take s.n m.full))
              (pass_one b w st z m.out)).zones))
              (add-one s.i)
              ∙ ap (λ (o : Counted). steps_all b w (drop (suc s.j) ss) (done st o.zones)) first_worth

    -- a zone is taken up, and what the step makes of it is listed where it stands
    module _ (idle : s.depth ≤ 0) (more : s.i < s.n) (there : s.i ≡ s.kept) (z : Zone) (hz : z ≡ get_or list s.i no_zone) (y : Zone)
        (t : ℕ) (leaves : (out : Counted) → pass_one b w st z out ≡ list_c y t out) where
      abbrev passed : Counted
      passed = list_c y t m.out

      room_here : s.kept < 32
      room_here = omega (arith, m.few)

      in_full : z ≡ get_or m.full s.i no_zone
      in_full = hz ∙ pending_list (omega arith)

      passed_left : drop s.i (take s.n m.full) ≡ z ∷ drop (suc s.i) (take s.n m.full)
      passed_left =
          let size = taken_long s.n 32 m.full m.full_long m.few in
          let inside : s.i < length (take s.n m.full) = omega arith in
          drop-cons (take s.n m.full) s.i no_zone inside
          ∙ ap (λ (x : Zone). x ∷ drop (suc s.i) (take s.n m.full))
          (get_or-take s.n m.full s.i no_zone more ∙ sym in_full)

      passed_worth : pass_all b w st (drop (suc s.i) (take s.n m.full)) passed
          ≡ pass_all b w st (drop s.i (take s.n m.full)) m.worth
      passed_worth =
          ap (pass_all b w st (drop (suc s.i) (take s.n m.full))) (sym (leaves m.out))
          ∙ sym (pass_cons b w st z (drop (suc s.i) (take s.n m.full)) m.out)
          ∙ ap (λ (l : List Zone). pass_all b w st l m.out) (sym passed_left)
          ∙ ap (pass_all b w st (drop s.i (take s.n m.full))) (all_out idle)

      passed_same : steps_all b w (drop (suc s.j) ss)
          (done st (pass_all b w st (drop (s.i + 1) (take s.n m.full)) passed).zones) ≡ whole
      passed_same =
          ap (λ (x : ℕ). steps_all b w (drop (suc s.j) ss) (done st (pass_all b w st (drop x (take s.n m.full)) passed).zones))
          (add-one s.i)
          ∙ ap (λ (o : Counted). steps_all b w (drop (suc s.j) ss) (done st o.zones)) passed_worth
          ∙ now_same

      some_left : 0 < length (drop s.j ss)
      some_left = omega (arith, length-drop s.j ss)

      none_waits : (d : ℕ) → d ≤ 0 → Turned b r stack d passed passed
      none_waits zero h = empty b r stack passed m.turned.long
      none_waits (suc d) h = absurd (omega arith)

      pub turn_passed : Machine b w ss whole (set list s.kept y) spare stack r (passed_c s)
      turn_passed =
          record {
            most = m.most;
            at = m.at;
            few = m.few;
            taken = omega arith;
            room = omega arith;
            fresh = λ e. absurd (omega arith);
            new = λ e. absurd (omega arith);
            long = length-set list s.kept y ∙ m.long;
            spare_long = m.spare_long;
            full = given s.kept (s.i + 1) spare list m.full m.spare_long m.long m.full_long room_here late m.merged;
            full_long =
                given_long s.kept (s.i + 1) spare list m.full m.spare_long m.long m.full_long room_here late m.merged;
            merged =
                rw (add-one s.kept) (ap (λ (l : List Zone). take (suc s.kept) spare ++ l) (drop_set s.kept list y));
            out = passed;
            shown =
                list_plain s.visit (take s.kept list) y t m.out m.shown
                (omega (arith, taken_long s.kept 32 list m.long m.room))
                ∙ ap (plain s.visit) listed_more;
            worth = passed;
            turned = none_waits s.depth idle;
            same =
                rest_ahead b w (drop s.j ss) s.visit s.n (s.i + 1) _ m.full passed some_left
                (given_ahead s.kept (s.i + 1) spare list m.full m.spare_long m.long m.full_long room_here late m.merged
                s.n)
                ∙ rest_now (s.i + 1) passed passed_same;
          }
        where
          late : s.kept < s.i + 1
          late = omega arith

          listed_more : take s.kept list ++ y ∷ [] ≡ take (s.kept + 1) (set list s.kept y)
          listed_more =
              sym (take_more s.kept list y (omega (arith, m.long)))
              ∙ ap (λ (n : ℕ). take n (set list s.kept y)) (sym (add-one s.kept))

-- ---- the numbers of refusals
number_full : (kept : ℕ) → 32 ≤ kept → number_c stops.Kept kept ≡ 7
unfolding number_c
number_full kept h = rw (le-ltb kept 32 h) refl

number_room : (kept : ℕ) → kept < 32 → number_c stops.Kept kept ≡ 0
unfolding number_c
number_room kept h = rw (lt-ltb kept 32 h) refl

kept_full : (kept : ℕ) → 0 < number_c stops.Kept kept → 32 ≤ kept
kept_full kept h = by (ltb kept 32) refl
  where
    by : (t : Bool) → ltb kept 32 ≡ t → 32 ≤ kept
    by true e = let n = number_room kept (ltb-true kept 32 e) in absurd (omega arith)
    by false e = ltb-false kept 32 e

-- a part that is cut, or goes on
abbrev pub is_dropped : Halt → Bool
is_dropped stops.No = true
is_dropped stops.Cut = true
is_dropped stops.Kept = false
is_dropped stops.Split = false
is_dropped stops.Full = false
is_dropped (stops.Other n) = ltb n 4

pub number_dropped : (halt : Halt) (kept : ℕ) → number_c halt kept ≤ 0 → is_split halt ≡ false → is_kept halt ≡ false → is_dropped halt ≡ true
unfolding number_c
number_dropped stops.No kept h a c = refl
number_dropped stops.Cut kept h a c = refl
number_dropped stops.Kept kept h a c = absurd (true≢false c)
number_dropped stops.Split kept h a c = absurd (true≢false a)
number_dropped stops.Full kept h a c = absurd (omega arith)
number_dropped (stops.Other n) kept h a c = by (ltb n 4) refl h
  where
    by : (t : Bool) → ltb n 4 ≡ t → cond t 0 n ≤ 0 → t ≡ true
    by true e l = refl
    by false e l = let g = ltb-false n 4 e in absurd (omega arith)

pub number_listed : (halt : Halt) (kept : ℕ) → number_c halt kept ≤ 0 → is_kept halt ≡ true → kept < 32
unfolding number_c
number_listed stops.No kept h e = absurd (true≢false (sym e))
number_listed stops.Cut kept h e = absurd (true≢false (sym e))
number_listed stops.Kept kept h e = by (ltb kept 32) refl
  where
    by : (t : Bool) → ltb kept 32 ≡ t → kept < 32
    by true e = ltb-true kept 32 e
    by false e =
        let seven : 7 ≤ 0 = subst (λ (x : Bool). cond x 0 7 ≤ 0) e h in
        absurd (omega arith)
number_listed stops.Split kept h e = absurd (true≢false (sym e))
number_listed stops.Full kept h e = absurd (true≢false (sym e))
number_listed (stops.Other n) kept h e = absurd (true≢false (sym e))

-- ---- by numbers
number_large : (halt kept : ℕ) → 4 ≤ halt → number_c (halt_of halt) kept ≡ halt
unfolding number_c
number_large halt kept h = ap (λ (k : Halt). number_c k kept) (large_halt halt h) ∙ by (eqb halt 8) refl
  where
    by : (t : Bool) → eqb halt 8 ≡ t → number_c (cond t stops.Full (stops.Other halt)) kept ≡ halt
    by true e = sym (eqb-true halt 8 e)
    by false e = rw (le-ltb halt 4 h) refl

-- the refusal that a part of a number means
number_of : (halt kept : ℕ) → number_c (halt_of halt) kept
    ≡ cond (ltb halt 2) 0 (cond (ltb halt 3) (cond (ltb kept 32) 0 7) (cond (ltb halt 4) 0 halt))
unfolding number_c
number_of zero kept = refl
number_of (suc zero) kept = refl
number_of (suc (suc zero)) kept = refl
number_of (suc (suc (suc zero))) kept = refl
number_of (suc (suc (suc (suc n)))) kept =
    let h : 4 ≤ suc (suc (suc (suc n))) = omega arith in
    number_large (suc (suc (suc (suc n)))) kept h ∙ sym (picked (suc (suc (suc (suc n)))) h)
  where
    picked : (m : ℕ) → 4 ≤ m → cond (ltb m 2) 0 (cond (ltb m 3) (cond (ltb kept 32) 0 7) (cond (ltb m 4) 0 m)) ≡ m
    picked m h = rw (le-ltb m 2 (omega arith), le-ltb m 3 (omega arith), le-ltb m 4 h) refl

-- ---- the end of a part
cut_splits_not : (k : Halt) → is_dropped k ≡ true → is_split k ≡ false
cut_splits_not stops.No h = refl
cut_splits_not stops.Cut h = refl
cut_splits_not stops.Kept h = refl
cut_splits_not stops.Split h = sym h
cut_splits_not stops.Full h = refl
cut_splits_not (stops.Other n) h = refl

pub kept_splits_not : (k : Halt) → is_kept k ≡ true → is_split k ≡ false
kept_splits_not stops.No h = refl
kept_splits_not stops.Cut h = refl
kept_splits_not stops.Kept h = refl
kept_splits_not stops.Split h = sym h
kept_splits_not stops.Full h = refl
kept_splits_not (stops.Other n) h = refl

module _ (p : Part) (out : Counted) where
  ends_cut : (k : Halt) → is_dropped k ≡ true → ended_by k p out ≡ out
  ends_cut stops.No h = refl
  ends_cut stops.Cut h = refl
  ends_cut stops.Kept h = absurd (true≢false (sym h))
  ends_cut stops.Split h = refl
  ends_cut stops.Full h = absurd (true≢false (sym h))
  ends_cut (stops.Other n) h = ap (λ (b : Bool). cond b out (refused_c n out)) h

  ended_cut : is_dropped p.halt ≡ true → ended_c p out ≡ out
  unfolding ended_c
  ended_cut h = ends_cut p.halt h

  ends_kept : (k : Halt) → is_kept k ≡ true → ended_by k p out ≡ list_c p.zone p.tests out
  ends_kept stops.No h = absurd (true≢false (sym h))
  ends_kept stops.Cut h = absurd (true≢false (sym h))
  ends_kept stops.Kept h = refl
  ends_kept stops.Split h = absurd (true≢false (sym h))
  ends_kept stops.Full h = absurd (true≢false (sym h))
  ends_kept (stops.Other n) h = absurd (true≢false (sym h))

  pub ended_kept : is_kept p.halt ≡ true → ended_c p out ≡ list_c p.zone p.tests out
  unfolding ended_c
  ended_kept h = ends_kept p.halt h

  ended_refused : (halt : ℕ) → 4 ≤ halt → p.halt ≡ halt_of halt → ended_c p out ≡ refused_c halt out
  unfolding ended_c
  ended_refused halt h e = ap (λ (k : Halt). ended_by k p out) (e ∙ large_halt halt h) ∙ by (eqb halt 8) refl
    where
      by : (t : Bool) → eqb halt 8 ≡ t → ended_by (cond t stops.Full (stops.Other halt)) p out ≡ refused_c halt out
      by true s = ap (λ (n : ℕ). refused_c n out) (sym (eqb-true halt 8 s))
      by false s = rw (le-ltb halt 4 h) refl

refused_plain : (n v : ℕ) (l : List Zone) (out : Counted) → out.zones ≡ plain v l → (refused_c n out).zones ≡ refused_z n v
unfolding refused_c
refused_plain n v l out e = rw e refl

list_full : (v : ℕ) (l : List Zone) (z : Zone) (k : ℕ) (out : Counted) → out.zones ≡ plain v l → 32 ≤ length l
    → list_c z k out ≡ refused_c 7 out
unfolding list_c
list_full v l z k out e h = rw (e, le-ltb (length l) 32 h) refl

-- ---- a part is run
module _ (b : Ranges) (w : ℕ) (ss : List Step) (whole : Zones) (list spare : List Zone) (stack : List Part) (r : Rule) (s : Pass)
    (m : Machine b w ss whole list spare stack r s) (go : s.j < length ss) (busy : 0 < s.depth) (p : Part)
    (ran : Ran b r (get_or stack (s.depth - 1) no_part) p) where
  abbrev ended : Counted
  ended = ended_c p m.out

  turn : Turn b r stack s.depth m.out ended m.worth p
  turn = record { top = omega arith; turned = m.turned; ran = ran; ended = refl }

  size_kept : length (take s.kept list) ≡ s.kept
  size_kept = taken_long s.kept 32 list m.long m.room

  pub turn_dropped : is_dropped p.halt ≡ true → Machine b w ss whole list spare stack r (dropped_c s)
  turn_dropped h =
      record {
        most = m.most;
        at = m.at;
        few = m.few;
        taken = m.taken;
        room = m.room;
        fresh = m.fresh;
        new = m.new;
        long = m.long;
        spare_long = m.spare_long;
        full = m.full;
        full_long = m.full_long;
        merged = m.merged;
        out = ended;
        shown = ap (λ (o : Counted). o.zones) (ended_cut p m.out h) ∙ m.shown;
        worth = m.worth;
        turned = ends_turned turn (cut_splits_not p.halt h);
        same = m.same;
      }

  listed_shown : is_kept p.halt ≡ true → s.kept < 32 → ended.zones ≡ plain s.visit (take (s.kept + 1) (set list s.kept p.zone))
  listed_shown h k =
      ap (λ (o : Counted). o.zones) (ended_kept p m.out h)
      ∙ list_plain s.visit (take s.kept list) p.zone p.tests m.out m.shown (omega (arith, size_kept))
      ∙ ap (plain s.visit)
      (sym (take_more s.kept list p.zone (omega (arith, m.long)))
      ∙ ap (λ (n : ℕ). take n (set list s.kept p.zone)) (sym (add-one s.kept)))

  pub turn_listed : is_kept p.halt ≡ true → s.kept < 32
      → Machine b w ss whole (set list s.kept p.zone) (set spare s.kept (get_or list s.kept no_zone)) stack r (listed_c s)
  turn_listed h k =
      record {
        most = m.most;
        at = m.at;
        few = m.few;
        taken = m.taken;
        room = omega arith;
        fresh = λ e. absurd (omega arith);
        new = m.new;
        long = length-set list s.kept p.zone ∙ m.long;
        spare_long = length-set spare s.kept (get_or list s.kept no_zone) ∙ m.spare_long;
        full = m.full;
        full_long = m.full_long;
        merged =
            rw (add-one s.kept)
            (merged_more s.kept spare list m.full p.zone m.spare_long m.long k m.merged);
        out = ended;
        shown = listed_shown h k;
        worth = m.worth;
        turned = ends_turned turn (kept_splits_not p.halt h);
        same = m.same;
      }

  -- the same where the place was taken up before: nothing is spared
  pub turn_listed_late : is_kept p.halt ≡ true → s.kept < 32 → s.kept < s.i
      → Machine b w ss whole (set list s.kept p.zone) spare stack r (listed_c s)
  turn_listed_late h k late =
      record {
        most = m.most;
        at = m.at;
        few = m.few;
        taken = m.taken;
        room = omega arith;
        fresh = λ e. absurd (omega arith);
        new = m.new;
        long = length-set list s.kept p.zone ∙ m.long;
        spare_long = m.spare_long;
        full = given s.kept s.i spare list m.full m.spare_long m.long m.full_long k late m.merged;
        full_long = given_long s.kept s.i spare list m.full m.spare_long m.long m.full_long k late m.merged;
        merged =
            rw (add-one s.kept) (ap (λ (l : List Zone). take (suc s.kept) spare ++ l) (drop_set s.kept list p.zone));
        out = ended;
        shown = listed_shown h k;
        worth = m.worth;
        turned = ends_turned turn (kept_splits_not p.halt h);
        same =
            rest_ahead b w (drop s.j ss) s.visit s.n s.i _ m.full m.worth (omega (arith, length-drop s.j ss))
            (given_ahead s.kept s.i spare list m.full m.spare_long m.long m.full_long k late m.merged s.n)
            ∙ m.same;
      }

  pub split_room : is_split p.halt ≡ true → s.depth < 25
  split_room h = room_turned turn h

  module _ (h : is_split p.halt ≡ true) (no yes : Part) (hn : no ≡ no_c r p) (hy : yes ≡ yes_c r p) where
    above : s.depth - 1 + 1 ≡ s.depth
    above = omega arith

    pub turn_split : Machine b w ss whole list spare (set (set stack (s.depth - 1) no) (s.depth - 1 + 1) yes) r (pushed_c s)
    turn_split =
        record {
          most = m.most;
          at = m.at;
          few = m.few;
          taken = m.taken;
          room = m.room;
          fresh = m.fresh;
          new = m.new;
          long = m.long;
          spare_long = m.spare_long;
          full = m.full;
          full_long = m.full_long;
          merged = m.merged;
          out = ended;
          shown = ap (λ (o : Counted). o.zones) (split_leaves p m.out h) ∙ m.shown;
          worth = m.worth;
          turned =
              subst (λ (x : ℕ). Turned b r (set (set stack (s.depth - 1) no) x yes) (s.depth + 1) ended m.worth) (sym above)
              (splits_turned turn h hn hy);
          same = m.same;
        }

    pub less_split : load (set (set stack (s.depth - 1) no) (s.depth - 1 + 1) yes) (s.depth + 1) < load stack s.depth
    less_split =
        subst (λ (x : ℕ). load (set (set stack (s.depth - 1) no) x yes) (s.depth + 1) < load stack s.depth) (sym above)
        (splits_less turn h hn hy)

  -- a refusal is what the whole pass comes to
  refused_by_lem : 0 < number_c p.halt s.kept → ended.zones ≡ refused_z (number_c p.halt s.kept) s.visit
  unfolding ended_c number_c
  refused_by_lem h = by p.halt h
    where
      full : 32 ≤ s.kept → (list_c p.zone p.tests m.out).zones ≡ refused_z (number_c stops.Kept s.kept) s.visit
      full k =
          ap (λ (o : Counted). o.zones) (list_full s.visit (take s.kept list) p.zone p.tests m.out m.shown (omega (arith, size_kept)))
          ∙ refused_plain 7 s.visit (take s.kept list) m.out m.shown
          ∙ ap (λ (n : ℕ). refused_z n s.visit) (sym (number_full s.kept k))

      by : (k : Halt) → 0 < number_c k s.kept → (ended_by k p m.out).zones ≡ refused_z (number_c k s.kept) s.visit
      by stops.No h = absurd (omega arith)
      by stops.Cut h = absurd (omega arith)
      by stops.Kept h = full (kept_full s.kept h)
      by stops.Split h = absurd (omega arith)
      by stops.Full h = refused_plain 8 s.visit (take s.kept list) m.out m.shown
      by (stops.Other n) h = other (ltb n 4) h
        where
          other : (t : Bool) → 0 < cond t 0 n → (cond t m.out (refused_c n m.out)).zones ≡ refused_z (cond t 0 n) s.visit
          other true h = absurd (omega arith)
          other false h = refused_plain n s.visit (take s.kept list) m.out m.shown

  pub turn_refused : 0 < number_c p.halt s.kept → refused_z (number_c p.halt s.kept) s.visit ≡ whole
  turn_refused h =
      let st = get_or ss s.j no_step in
      let shown = refused_by_lem h in
      let stopped : 0 < ended.zones.refusal = subst (λ (z : Zones). 0 < z.refusal) (sym shown) h in
      let none : ended.zones.count ≡ 0 = ap (λ (z : Zones). z.count) shown in
      let all = refused_turned turn stopped in
      sym shown
      ∙ sym (steps_stick b w (drop (suc s.j) ss) ended.zones stopped none)
      ∙ ap (steps_all b w (drop (suc s.j) ss))
      (sym (done_sticks st ended.zones stopped)
      ∙ ap (λ (o : Counted). done st o.zones)
      (sym (pass_sticks b w st (drop s.i (take s.n m.full)) ended stopped)
      ∙ ap (pass_all b w st (drop s.i (take s.n m.full))) all))
      ∙ now_same b w ss whole list spare stack r s m st go refl

  -- the same with the number as the code has it
  pub refused_is : (n : ℕ) → n ≡ number_c p.halt s.kept → 0 < n → closed (refused_z n s.visit) ≡ whole
  refused_is n e h = ap (λ (x : ℕ). refused_z x s.visit) e ∙ turn_refused (subst (λ (x : ℕ). 0 < x) e h)

-- ---- the end
nothing_left : (b : Ranges) (w v n i : ℕ) (full : List Zone) (o : Counted) → plain v (take n full) ≡ rest b w [] v n i full o
unfolding rest
nothing_left b w v n i full o = refl

module _ (b : Ranges) (w : ℕ) (ss : List Step) (whole : Zones) (list spare : List Zone) (stack : List Part) (r : Rule) (s : Pass)
    (m : Machine b w ss whole list spare stack r s) (over : length ss ≤ s.j) where
  is_list : list ≡ m.full
  is_list = subst (λ (k : ℕ). take k spare ++ drop k list ≡ m.full) (m.fresh over) m.merged

  pub machine_ends : closed (record { refusal = 0; visit = s.visit; count = s.n; list = list }) ≡ whole
  machine_ends =
      let size = taken_long s.n 32 list m.long m.few in
      ap (λ (k : ℕ). record { refusal = 0; visit = s.visit; count = k; list = take s.n list ++ replicate (32 - k) blank_zone })
      (sym size)
      ∙ ap (λ (l : List Zone). plain s.visit (take s.n l)) is_list
      ∙ end (drop s.j ss) (drop_of_length-le ss over) m.same
    where
      end : (l : List Step) → l ≡ [] → rest b w l s.visit s.n s.i m.full m.worth ≡ whole → plain s.visit (take
          s.n m.full) ≡ whole
      end l e h = nothing_left b w s.visit s.n s.i m.full m.worth ∙ ap (λ (x : List Step). rest b w x s.visit
          s.n s.i m.full m.worth) (sym e) ∙ h

pub ends_fit : (v n : ℕ) (list : List Zone) → n ≤ 32 → Fit (record { refusal = 0; visit = v; count = n; list = list })
ends_fit v n list h = record { few = h; none = λ e. absurd (omega arith) }

pub refused_fit : (n v : ℕ) → Fit (refused_z n v)
refused_fit n v = record { few = omega arith; none = λ _. refl }

-- ---- what is left of the way
abbrev pub left : List Step → List Part → Pass → ℕ
left ss stack s = (length ss - s.j) * 8589934593 + (s.n - s.i) * 268435456 + load stack s.depth

-- a part weighs at most what one before its first test does
size_most : size 27 ≡ 268435455
unfolding size
size_most = refl

weight_most : (k : ℕ) → size (27 - k) ≤ 268435455
weight_most k = let h = size_more (27 - k) 27 (omega arith) in omega (arith, size_most)

load_one : (stack : List Part) (p : Part) → 0 < length stack → load (set stack 0 p) 1 ≤ 268435455
unfolding load
load_one stack p h = rw (get_or-set_same stack 0 p no_part h) (let k = weight_most p.phase in omega arith)

load_none : (stack : List Part) → load stack 0 ≡ 0
unfolding load
load_none stack = refl

pub less_stepped : (ss : List Step) (stack : List Part) (s : Pass) (st : Step) → s.j < length ss → s.kept ≤ 32
    → left ss stack (stepped_c s st) < left ss stack s
less_stepped ss stack s st h k = let z = load_none stack in omega arith

pub less_loaded : (ss : List Step) (stack : List Part) (s : Pass) (p : Part) → length stack ≡ 25 → s.i < s.n
    → left ss (set stack 0 p) (loaded_c s) < left ss stack s
less_loaded ss stack s p l h = let o = load_one stack p (omega (arith, l)) in omega arith

pub less_passed : (ss : List Step) (stack : List Part) (s : Pass) → s.i < s.n → left ss stack (passed_c s) < left ss stack s
less_passed ss stack s h = omega arith

pub less_ended : (ss : List Step) (stack : List Part) (s : Pass) (k : ℕ) → 0 < s.depth
    → left ss stack (record { j = s.j; n = s.n; i = s.i; kept = k; depth = s.depth - 1; visit = s.visit }) < left ss stack s
less_ended ss stack s k h = let e = ends_less stack s.depth (s.depth - 1) (omega arith) in omega arith

pub less_pushed : (ss : List Step) (stack more : List Part) (s : Pass) → load more (s.depth + 1) < load stack s.depth
    → left ss more (pushed_c s) < left ss stack s
less_pushed ss stack more s h = omega arith
