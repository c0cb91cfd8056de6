-- What the code does along the whole route (Walked) is the cutting, for every accepted sheet: `zones_coded`.
use Rattle.std.specs.Prelude.{◌≡◌, Bool, true, false, cond, ℕ, suc, ◌+◌, ◌-◌, ◌/◌, ◌%◌, ◌≤◌, ◌<◌, eqb, ltb, leb}
use Rattle.std.proofs.Math.Path.{refl, ap}
use Rattle.std.proofs.Common.{sym, ◌∙◌, arith, length-take}
use mathlib.Core.List.{List, [], ◌∷◌, ◌++◌, map}
use Rattle.std.proofs.Math.ListN.{length, replicate}
use Rattle.cutting.specs.Cutting.{Bounds, start_b, start_zone, Listing, listed, refused, on_bounds, step_zones, and_then, cut_steps}
use Rattle.cutting.specs.Cutting.{zones_along, zones_of}
use Rattle.cutting.specs.Cutting as cutting
use Rattle.cutting.specs.Every.{Right, GuardIs}
use Rattle.cutting.proofs.Every.{step_right}
use Rattle.cutting.specs.Listings.{on_length}
use Rattle.cutting.proofs.NumberedProof.{some_number}
use Rattle.dbm.specs.Entries.{up_to_4, eqb_no, reset_bit, bits_resets}
use Rattle.dbm.specs.Matrix.{delayed, reset_m, resets_m}
use Rattle.weight.specs.Upper.{none}
use Rattle.expr.specs.Records.{range_list}
use Rattle.expr.specs.declared.bound.Bound.{Bound}
use Rattle.expr.specs.declared.range.Ranges.{Ranges}
use Rattle.guards.specs.declared.Guard.{Guard}
use Rattle.sheet.specs.declared.Sheet.{Sheet}
use Rattle.automaton.specs.declared.Transition.{Transition}
use Rattle.sheet.specs.WellFormed.{WellFormed}
use Rattle.sizes.specs.Sizes.{AtMostM, ENTRY, SmallGuard}
use Rattle.sizes.proofs.SizesProof.{ZoneTraced, lasting, start_right, zone_small, guard_small}
use Rattle.timed.specs.Automaton.{invariants, guards_of, route_of, transition_at}
use Rattle.sheet.specs.Lookup.{location_c, transition_c}
use Rattle.timed.specs.Indexed.{location_in_lem, transition_in_lem}
use Rattle.timed.specs.Lists.{AllOf}
use Rattle.timed.specs.Right.{StepRight, filled_all, lowest, lowest_inside}
use Rattle.timed.proofs.Right.{steps_right, route_delays}
use Rattle.timed.specs.Steps.{Step, delay, guard, resets, arrival_steps, stay_steps, move_steps, steps_from, steps_of, moves, delays}
use Rattle.timed.specs.Visits.{Visits, resets_then, move_joined, after, after_delays}
use Rattle.timed.proofs.Visits.{steps_visits, steps_moves}
use Rattle.coded.specs.Records.{row_of, bounds_of, zone_of, zones_in, coded}
use Rattle.coded.specs.CodedGuard.{guard_coded}
use Rattle.split.specs.Guarded.{guarded_c}
use Rattle.zones.specs.Zone.{blank_zone}
use Rattle.delay.specs.Delayed.{delayed_b, reset_pair, reset_b, reset_if_b, resets_b, on_first, delayed_zone, resets_zone, delayed_all}
use Rattle.delay.specs.Delayed.{resets_all}
use Rattle.steps.specs.Steps.{at_visit}
use Rattle.segments.specs.Walked.{guards_all, invariants_all, stay_all, move_all, walk_all, start_all, started_all, zones_all}
use Rattle.zones.specs.declared.zone.Zone.{Zone}
use Rattle.zones.specs.declared.zone.Zones.{Zones}

-- ---- one matrix: a wait
delayed_coded : (m : Bounds) (w : ℕ) → w ≤ 4 → delayed_b w (bounds_of m) ≡ bounds_of (delayed w none m)
unfolding delayed_b bounds_of row_of delayed
delayed_coded m = up_to_4 (λ w. delayed_b w (bounds_of m) ≡ bounds_of (delayed w none m)) refl refl refl refl refl

-- ---- resets
-- clock r, if there is such a clock
abbrev Resets : Bounds → ℕ → ℕ → Type 0
Resets m r w = cond (ltb w r) (bounds_of m) (reset_b w r (bounds_of m)) ≡ bounds_of (cond (leb r w) (reset_m w r m) m)

module _ (m : Bounds) where
  reset_1 : (w : ℕ) → w ≤ 4 → Resets m 1 w
  unfolding reset_b reset_pair bounds_of row_of reset_m
  reset_1 = up_to_4 (Resets m 1) refl refl refl refl refl

  reset_2 : (w : ℕ) → w ≤ 4 → Resets m 2 w
  unfolding reset_b reset_pair bounds_of row_of reset_m
  reset_2 = up_to_4 (Resets m 2) refl refl refl refl refl

  reset_3 : (w : ℕ) → w ≤ 4 → Resets m 3 w
  unfolding reset_b reset_pair bounds_of row_of reset_m
  reset_3 = up_to_4 (Resets m 3) refl refl refl refl refl

  reset_4 : (w : ℕ) → w ≤ 4 → Resets m 4 w
  unfolding reset_b reset_pair bounds_of row_of reset_m
  reset_4 = up_to_4 (Resets m 4) refl refl refl refl refl

-- where the bit is 1
reset_if_lem : (w r bit : ℕ) (m : Bounds) → Resets m r w → reset_if_b w r bit (bounds_of m) ≡ bounds_of (reset_bit w r bit m)
unfolding reset_if_b
reset_if_lem w r bit m h = by (eqb bit 1)
  where
    by : (b : Bool) → cond b (cond (ltb w r) (bounds_of m) (reset_b w r (bounds_of m))) (bounds_of m)
        ≡ bounds_of (cond b (cond (leb r w) (reset_m w r m) m) m)
    by true = h
    by false = refl

resets_coded : (w bits : ℕ) (m : Bounds) → w ≤ 4 → resets_b w bits (bounds_of m) ≡ bounds_of (resets_m w bits w m)
unfolding resets_b
resets_coded w bits m four =
    let m₁ = reset_bit w 1 (bits % 2) m in
    let m₂ = reset_bit w 2 (bits / 2 % 2) m₁ in
    let m₃ = reset_bit w 3 (bits / 4 % 2) m₂ in
    rw (← bits_resets bits m w four)
    (ap (λ (l : List Bound). reset_if_b w 4 (bits / 8 % 2) (reset_if_b w 3 (bits / 4 % 2) (reset_if_b w 2 (bits / 2 % 2) l)))
    (reset_if_lem w 1 (bits % 2) m (reset_1 m w four))
    ∙ ap (λ (l : List Bound). reset_if_b w 4 (bits / 8 % 2) (reset_if_b w 3 (bits / 4 % 2) l))
    (reset_if_lem w 2 (bits / 2 % 2) m₁ (reset_2 m₁ w four))
    ∙ ap (λ (l : List Bound). reset_if_b w 4 (bits / 8 % 2) l) (reset_if_lem w 3 (bits / 4 % 2) m₂ (reset_3 m₂ w four))
    ∙ reset_if_lem w 4 (bits / 8 % 2) m₃ (reset_4 m₃ w four))

-- ---- a step on every zone's matrix
module _ (f : Zone → Zone) (h : Bounds → Bounds) where
  on_first_lem : ((z : cutting.Zone) → f (zone_of z) ≡ zone_of (record { ineqs = z.ineqs; bounds = h z.bounds }))
      → (zs : List cutting.Zone) (rest : List Zone)
      → on_first f (length zs) (map zone_of zs ++ rest) ≡ map zone_of (on_bounds h zs) ++ rest
  unfolding on_first on_bounds
  on_first_lem e [] rest = refl
  on_first_lem e (z ∷ zs) rest = rw (e z, on_first_lem e zs rest) refl

  on_list : ((z : cutting.Zone) → f (zone_of z) ≡ zone_of (record { ineqs = z.ineqs; bounds = h z.bounds }))
      → (visit : ℕ) (zs : List cutting.Zone)
      → record { refusal = 0; visit = visit; count = length zs; list = on_first f (length zs) (zones_in zs) }
      ≡ coded visit (listed (on_bounds h zs))
  unfolding coded zones_in
  on_list e visit zs =
      ap (λ (l : List Zone). record { refusal = 0; visit = visit; count = length zs; list = l })
      (on_first_lem e zs (replicate (32 - length zs) blank_zone))
      ∙ ap (λ (k : ℕ). record {
        refusal = 0;
        visit = visit;
        count = k;
        list = map zone_of (on_bounds h zs) ++ replicate (32 - k) blank_zone;
      }) (sym (on_length h zs))

-- the step after a listing
abbrev steps : (Bounds → Bounds) → Listing → Listing
steps h o = and_then o (λ zs. listed (on_bounds h zs))

delayed_all_lem : (w visit : ℕ) → w ≤ 4 → (o : Listing) → delayed_all w (coded visit o) ≡ coded visit (steps (delayed w none) o)
unfolding delayed_all coded on_first zone_of
delayed_all_lem w visit four (listed zs) = on_list (delayed_zone w) (delayed w none) one visit zs
  where
    one : (z : cutting.Zone) → delayed_zone w (zone_of z) ≡ zone_of (record { ineqs = z.ineqs; bounds = delayed w none z.bounds })
    one z = rw (delayed_coded z.bounds w four) refl
delayed_all_lem w visit four (refused n k) = refl

resets_all_lem : (w bits visit : ℕ) → w ≤ 4 → (o : Listing) → resets_all w bits (coded visit o) ≡ coded visit (steps (resets_m w bits w) o)
unfolding resets_all coded on_first zone_of
resets_all_lem w bits visit four (listed zs) = on_list (resets_zone w bits) (resets_m w bits w) one visit zs
  where
    one : (z : cutting.Zone) → resets_zone w bits (zone_of z) ≡ zone_of (record { ineqs = z.ineqs; bounds = resets_m w bits w z.bounds })
    one z = rw (resets_coded w bits z.bounds four) refl
resets_all_lem w bits visit four (refused n k) = refl

-- ---- the next visit
next_visit : (P : cutting.Zone → Type 0) (visit k : ℕ) (o : Listing) → Right P o → at_visit k (coded visit o) ≡ coded k o
unfolding at_visit coded
next_visit P visit k (listed zs) r = refl
next_visit P visit k (refused n j) r = rw (eqb_no n 0 (λ e. let h = some_number n r in omega arith)) refl

-- ---- any list of steps
-- a step of the code on its zones after k moves, and steps in order
unfoldable pub step_all : Ranges → ℕ → ℕ → Step → Zones → Zones
step_all b w k delay zs = delayed_all w zs
step_all b w k (guard visit g) zs = guarded_c b w g zs
step_all b w k (resets bits) zs = at_visit (suc k) (resets_all w bits zs)

-- the moves made after the step
abbrev pub made : ℕ → Step → ℕ
made k delay = k
made k (guard visit g) = k
made k (resets bits) = suc k

unfoldable pub steps_all : Ranges → ℕ → ℕ → List Step → Zones → Zones
steps_all b w k [] zs = zs
steps_all b w k (s ∷ steps) zs = steps_all b w (made k s) steps (step_all b w k s zs)

made_moves : (k : ℕ) (s : Step) (steps : List Step) → made k s + moves steps ≡ k + moves (s ∷ steps)
unfolding moves
made_moves k delay steps = refl
made_moves k (guard visit g) steps = refl
made_moves k (resets bits) steps = omega arith

none_made : (k : ℕ) → k ≡ k + moves []
unfolding moves
none_made k = omega arith

first_visit : (k : ℕ) (s : Step) (steps : List Step) → Visits k (s ∷ steps) → Visits k (s ∷ []) × Visits (made k s) steps
first_visit k delay steps h = (tt, h)
first_visit k (guard visit g) steps h = ((h.0, tt), h.1)
first_visit k (resets bits) steps h = (tt, h)

module _ (parameters : ℕ) (b : Ranges) {w : ℕ} (four : w ≤ 4) where
  -- a zone after n delays
  abbrev Reached : ℕ → cutting.Zone → Type 0
  Reached = ZoneTraced (range_list b) w

  abbrev cut_by : Step → Listing → Listing
  cut_by s o = and_then o (step_zones (range_list b) w s)

  abbrev cuts : List Step → Listing → Listing
  cuts steps o = and_then o (cut_steps (range_list b) w steps)

  guard_is : (s : Step) → StepRight parameters w s → GuardIs (SmallGuard w) s
  guard_is delay r = tt
  guard_is (guard visit g) r = guard_small parameters w g r
  guard_is (resets bits) r = tt

  step_reached : (s : Step) → StepRight parameters w s → (n : ℕ) (o : Listing) → Right (Reached n) o
      → Right (Reached (after n s)) (cut_by s o)
  step_reached s h n (listed zs) r =
      step_right (range_list b) w (SmallGuard w) Reached (lasting (range_list b) w) s (guard_is s h) n zs r
  step_reached s h n (refused m k) r = r

  all_small : (n : ℕ) → n ≤ 33 → (zs : List cutting.Zone) → AllOf (Reached n) zs → AllOf (λ z. AtMostM ENTRY w z.bounds) zs
  all_small n few [] a = tt
  all_small n few (z ∷ zs) a = (zone_small (range_list b) w n z few a.0, all_small n few zs a.1)

  reached_small : (n : ℕ) → n ≤ 33 → (o : Listing) → Right (Reached n) o → Right (λ z. AtMostM ENTRY w z.bounds) o
  reached_small n few (listed zs) r = (r.0, all_small n few zs r.1)
  reached_small n few (refused m k) r = r

  step_coded : (k n : ℕ) → n ≤ 33 → (s : Step) → Visits k (s ∷ []) → StepRight parameters w s → (o : Listing) → Right (Reached n) o
      → step_all b w k s (coded k o) ≡ coded (made k s) (cut_by s o)
  unfolding step_all step_zones
  step_coded k n few delay a r o h = delayed_all_lem w k four o
  step_coded k n few (guard visit g) a r o h =
      rw (← a.0) (guard_coded b visit w g four (guard_small parameters w g r) o (reached_small n few o h))
  step_coded k n few (resets bits) a r o h =
      ap (at_visit (suc k)) (resets_all_lem w bits k four o)
      ∙ next_visit (Reached n) k (suc k) (steps (resets_m w bits w) o) (step_reached (resets bits) r n o h)

  none_is : (o : Listing) → o ≡ cuts [] o
  unfolding cut_steps
  none_is (listed zs) = refl
  none_is (refused n k) = refl

  next_is : (s : Step) (steps : List Step) (o : Listing) → cuts steps (cut_by s o) ≡ cuts (s ∷ steps) o
  unfolding cut_steps
  next_is s steps (listed zs) = refl
  next_is s steps (refused n k) = refl

  pub all_coded : (steps : List Step) (k n : ℕ) → Visits k steps → AllOf (StepRight parameters w) steps → n + delays steps ≤ 33
      → (o : Listing) → Right (Reached n) o → steps_all b w k steps (coded k o) ≡ coded (k + moves steps) (cuts steps o)
  unfolding steps_all
  all_coded [] k n a r few o h = ap (coded k) (none_is o) ∙ ap (λ (j : ℕ). coded j (cuts [] o)) (none_made k)
  all_coded (s ∷ steps) k n a r few o h =
      let (here, then) = first_visit k s steps a in
      let count = after_delays n s steps in
      ap (steps_all b w (made k s) steps) (step_coded k n (omega arith) s here r.0 o h)
      ∙ all_coded steps (made k s) (after n s) then r.1 (omega arith) (cut_by s o) (step_reached s r.0 n o h)
      ∙ ap (coded (made k s + moves steps)) (next_is s steps o)
      ∙ ap (λ (j : ℕ). coded j (cuts (s ∷ steps) o)) (made_moves k s steps)

-- ---- the code's walk makes the steps along the route
guards_then : (b : Ranges) (w k : ℕ) (rest : List Step) (gs : List Guard) (zs : Zones)
    → steps_all b w k rest (guards_all b w gs zs) ≡ steps_all b w k (map (guard k) gs ++ rest) zs
unfolding guards_all steps_all step_all
guards_then b w k rest [] zs = refl
guards_then b w k rest (g ∷ gs) zs = guards_then b w k rest gs (guarded_c b w g zs)

guards_last : (b : Ranges) (w k : ℕ) (gs : List Guard) (zs : Zones) → guards_all b w gs zs ≡ steps_all b w k (map (guard k) gs) zs
unfolding guards_all steps_all step_all
guards_last b w k [] zs = refl
guards_last b w k (g ∷ gs) zs = guards_last b w k gs (guarded_c b w g zs)

module _ {s : Sheet} (f : WellFormed s) where
  abbrev goes : ℕ → List Step → Zones → Zones
  goes k steps zs = steps_all s.ranges s.clocks k steps zs

  abbrev arrives : ℕ → Zones → Zones
  arrives l zs = invariants_all s.ranges s.clocks (location_c s l) zs

  abbrev stays : ℕ → Zones → Zones
  stays l zs = stay_all s.ranges s.clocks (location_c s l) zs

  -- the code's transition, and where it goes
  abbrev moves_on : ℕ → ℕ → Zones → Zones
  moves_on k n zs = move_all s.ranges s.clocks k (transition_c s n) (location_c s (transition_c s n).to) zs

  arrival_then : (k l : ℕ) (rest : List Step) → l < s.locations → (zs : Zones)
      → goes k rest (arrives l zs) ≡ goes k (arrival_steps s k l ++ rest) zs
  unfolding arrival_steps invariants
  arrival_then k l rest hl zs =
      rw (location_in_lem s l (omega (arith, f.location.few))) (guards_then s.ranges s.clocks k rest (invariants s l) zs)

  last_is : (k l : ℕ) → l < s.locations → (zs : Zones) → stays l zs ≡ goes k (stay_steps s k l) zs
  unfolding stay_all stay_steps steps_all step_all invariants
  last_is k l hl zs =
      rw (location_in_lem s l (omega (arith, f.location.few)))
      (guards_last s.ranges s.clocks k (invariants s l) (delayed_all s.clocks zs))

  stay_then : (k l : ℕ) (rest : List Step) → l < s.locations → (zs : Zones)
      → goes k rest (stays l zs) ≡ goes k (stay_steps s k l ++ rest) zs
  unfolding stay_all stay_steps arrival_steps steps_all step_all
  stay_then k l rest hl zs = arrival_then k l rest hl (delayed_all s.clocks zs)

  move_then : (k n : ℕ) (rest : List Step) → n < s.transitions → (zs : Zones)
      → goes (suc k) rest (moves_on k n zs) ≡ goes k (move_steps s k n ++ rest) zs
  unfolding move_all steps_all step_all guards_of
  move_then k n rest hn zs =
      let w = s.clocks in
      let to = (transition_at s n).to in
      let bits = (transition_at s n).resets in
      let limited = guards_all s.ranges w (guards_of s n) zs in
      rw (transition_in_lem s n (omega (arith, f.transition.few)))
      (arrival_then (suc k) to rest (f.transition.each n hn).to (at_visit (suc k) (resets_all w bits limited))
      ∙ guards_then s.ranges w k (resets_then s k n rest) (guards_of s n) zs
      ∙ ap (λ (steps : List Step). goes k steps zs) (sym (move_joined s k n rest)))

  walk_is : (ns : List ℕ) → AllOf (λ n. n < s.transitions) ns → (k l : ℕ) → l < s.locations → (zs : Zones)
      → walk_all s k l ns zs ≡ goes k (steps_from s k l ns) zs
  unfolding walk_all steps_from
  walk_is [] r k l hl zs = last_is k l hl zs
  walk_is (n ∷ ns) (hn, r) k l hl zs =
      let to = (transition_at s n).to in
      let rest = steps_from s (suc k) to ns in
      let gone = moves_on k n (stays l zs) in
      ap (λ (j : ℕ). walk_all s (suc k) j ns gone) (ap (λ (t : Transition). t.to) (transition_in_lem s n (omega (arith, f.transition.few))))
      ∙ walk_is ns r (suc k) to (f.transition.each n hn).to gone
      ∙ move_then k n rest hn (stays l zs)
      ∙ stay_then k l (move_steps s k n ++ rest) hl zs

  route_is : zones_all s ≡ goes 0 (steps_of s (route_of s)) start_all
  unfolding zones_all started_all steps_of route_of
  route_is =
      let some = f.some_location in
      walk_is (route_of s) (filled_all f.route) 0 0 (omega arith) (started_all s)
      ∙ arrival_then 0 0 (steps_from s 0 0 (route_of s)) (omega arith) start_all

-- ---- the whole route
start_coded : start_all ≡ coded 0 (listed (start_zone ∷ []))
unfolding start_all coded zones_in zone_of bounds_of row_of start_b
start_coded = refl

route_length : {s : Sheet} → WellFormed s → 0 + length (route_of s) ≡ s.moves
unfolding route_of
route_length {s} f =
    let few = f.route.few in
    let long = f.route.long in
    simp length-take (omega arith)

-- what the code lists is what the cutting lists, or both are refused alike
pub zones_coded : (s : Sheet) → WellFormed s → zones_all s ≡ coded s.moves (zones_of s)
unfolding zones_of zones_along
zones_coded s f =
    let steps = steps_of s (route_of s) in
    route_is f
    ∙ ap (steps_all s.ranges s.clocks 0 steps) start_coded
    ∙ all_coded s.parameters s.ranges f.clocks steps 0 0 (steps_visits s (route_of s)) (steps_right f (route_of s))
    (omega (arith, route_delays f)) (listed (start_zone ∷ []))
    (start_right (range_list s.ranges) s.clocks (lowest s) (lowest_inside s f))
    ∙ ap (λ (k : ℕ). coded k (zones_of s)) (ap (λ (k : ℕ). 0 + k) (steps_moves s (route_of s)) ∙ route_length f)
