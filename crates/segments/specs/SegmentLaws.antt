-- What is left of a route behind a segment.
use Rattle.std.specs.Prelude.{◌≡◌, List, [], ◌∷◌, ℕ, suc, ◌≤◌, ◌<◌, get_or, take, drop}
use Rattle.std.proofs.Math.Path.{refl, sym, ap}
use Rattle.std.proofs.Common.{◌∙◌, arith, length-take, drop_of_length-le, drop-cons, get_or-take}
use Rattle.automaton.specs.declared.Location.{Location}
use Rattle.automaton.specs.declared.Transition.{Transition}
use Rattle.sheet.specs.declared.Sheet.{Sheet}
use Rattle.sheet.specs.Lookup.{location_c, transition_c}
use Rattle.steps.specs.Steps.{steps_all}
use Rattle.steps.specs.declared.step.Step.{Step}
use Rattle.steps.specs.declared.step.Steps.{Steps}
use Rattle.segments.specs.Lists.{Lists, invariant_steps, invariants_are}
use Rattle.segments.specs.Segments.{moves_of, size, Segmented}
use Rattle.segments.specs.Walked.{stay_all, move_all, walk_all, start_all, started_all, zones_all}
use Rattle.segments.specs.declared.segment.Segment.{Segment}
use Rattle.zones.specs.declared.zone.Zones.{Zones}

-- the code's list of steps
abbrev pub steps_in : Steps → List Step
steps_in ss = take ss.count ss.list

-- what the zones after segment k come to along what is left of the route is what the whole route comes to
pub record Ahead (s : Sheet) (k : ℕ) (here : Location) (zs : Zones) : Type 0 where
  pub moving : k ≤ size s → (l : ℕ) × ((here ≡ location_c s l) × (walk_all s k l (drop k (moves_of s)) zs ≡ zones_all s))
  pub over : size s < k → zs ≡ zones_all s

module _ (s : Sheet) where
  walk_cons : (ns : List ℕ) (n : ℕ) (rest : List ℕ) (visit l : ℕ) (zs : Zones) → ns ≡ n ∷ rest
      → walk_all s visit l ns zs
      ≡ walk_all s (suc visit) (transition_c s n).to rest
      (move_all s.ranges s.clocks visit (transition_c s n) (location_c s (transition_c s n).to)
      (stay_all s.ranges s.clocks (location_c s l) zs))
  unfolding walk_all
  walk_cons ns n rest visit l zs h = rw h refl

  pub walk_turn : (k l : ℕ) (zs whole : Zones) (here there : Location) (t : Transition) → k < size s
      → walk_all s k l (drop k (moves_of s)) zs ≡ whole → t ≡ transition_c s (get_or s.route k 0) → here ≡ location_c s l
      → there ≡ location_c s t.to
      → walk_all s (suc k) t.to (drop (suc k) (moves_of s))
      (move_all s.ranges s.clocks k t there (stay_all s.ranges s.clocks here zs)) ≡ whole
  walk_turn k l zs whole here there t h e et eh eg =
      let few : k < s.moves = omega (arith, length-take s.moves s.route) in
      rw (eg, eh, et, ← get_or-take s.moves s.route k 0 few)
      (sym
      (walk_cons (drop k (moves_of s)) (get_or (moves_of s) k 0) (drop (suc k) (moves_of s)) k l zs (drop-cons (moves_of s) k 0 h)) ∙ e)

  pub walk_done : (k l : ℕ) (zs whole : Zones) (here : Location) → size s ≤ k → walk_all s k l (drop k (moves_of s)) zs ≡ whole
      → here ≡ location_c s l → stay_all s.ranges s.clocks here zs ≡ whole
  unfolding walk_all
  walk_done k l zs whole here h e eh =
      let f : stay_all s.ranges s.clocks (location_c s l) zs ≡ whole = rw (drop_of_length-le (moves_of s) h) at e in
      ap (λ (p : Location). stay_all s.ranges s.clocks p zs) eh ∙ f

  pub after_steps : (l : List Step) (ss : Steps) (zs : Zones) → Lists 20 l ss
      → steps_all s.ranges s.clocks (steps_in ss) zs ≡ steps_all s.ranges s.clocks l zs
  after_steps l ss zs h = ap (λ (x : List Step). steps_all s.ranges s.clocks x zs) h.same

  pub no_steps : (zs : Zones) → steps_all s.ranges s.clocks [] zs ≡ zs
  unfolding steps_all
  no_steps zs = refl

  start_is : started_all s ≡ steps_all s.ranges s.clocks (invariant_steps (location_c s 0)) start_all
  unfolding started_all
  start_is = sym (invariants_are s.ranges s.clocks (location_c s 0) start_all)

  whole_is : walk_all s 0 0 (moves_of s) (started_all s) ≡ zones_all s
  unfolding zones_all
  whole_is = refl

  -- behind the first segment
  pub ahead_starts : (here : Location) (r : Segment) → here ≡ location_c s 0 → Segmented s 0 here r
      → Ahead s 0 r.there (steps_all s.ranges s.clocks (steps_in r.steps) start_all)
  ahead_starts here r e g =
      let told = g.starts refl in
      record {
        moving =
            λ _. (
              0,
              (
                told.0 ∙ e,
                ap (walk_all s 0 0 (moves_of s))
                    (after_steps (invariant_steps here) r.steps start_all told.1
                    ∙ ap (λ (x : Location). steps_all s.ranges s.clocks (invariant_steps x) start_all) e
                    ∙ sym start_is)
                    ∙ whole_is,
              ),
            );
        over = λ h. absurd (omega arith);
      }
