-- What is left of a route behind one segment more.
use Rattle.std.specs.Prelude.{◌≡◌, Bool, true, false, [], ℕ, suc, ◌≤◌, ◌<◌, ltb, eqb, drop}
use Rattle.std.proofs.Math.Path.{refl, ap}
use Rattle.std.proofs.Common.{◌∙◌, arith, ltb-true, ltb-false, eqb-true}
use Rattle.std.proofs.lemmas.Bool.{eqb-false}
use Rattle.automaton.specs.declared.Location.{Location}
use Rattle.sheet.specs.declared.Sheet.{Sheet}
use Rattle.steps.specs.Steps.{steps_all}
use Rattle.segments.specs.Lists.{stay_steps, move_steps, stay_is, move_is}
use Rattle.segments.specs.Segments.{moves_of, size, Segmented}
use Rattle.segments.specs.Walked.{walk_all, zones_all}
use Rattle.segments.specs.declared.segment.Segment.{Segment}
use Rattle.zones.specs.declared.zone.Zones.{Zones}
use Rattle.segments.specs.SegmentLaws.{steps_in, Ahead, after_steps, walk_turn, walk_done, no_steps}

module _ (s : Sheet) where
  module _ (k : ℕ) (here : Location) (zs : Zones) (a : Ahead s k here zs) (r : Segment) (g : Segmented s (suc k) here r) where
    abbrev next : Zones
    next = steps_all s.ranges s.clocks (steps_in r.steps) zs

    ahead_moves : k < size s → Ahead s (suc k) r.there next
    ahead_moves h =
        let m = g.moves k refl h in
        let v = a.moving (omega arith) in
        record {
          moving =
              λ _. (
                m.t.to,
                (
                  m.there,
                  ap (walk_all s (suc k) m.t.to (drop (suc k) (moves_of s)))
                      (after_steps s (move_steps here k m.t r.there) r.steps zs m.steps
                      ∙ move_is s.ranges s.clocks here k m.t r.there zs)
                      ∙ walk_turn s k v.0 zs (zones_all s) here r.there m.t h v.1.1 m.found v.1.0 m.there,
                ),
              );
          over = λ o. absurd (omega arith);
        }

    ahead_stays : k ≡ size s → Ahead s (suc k) r.there next
    ahead_stays h =
        let v = a.moving (omega arith) in
        record {
          moving = λ o. absurd (omega arith);
          over =
              λ _.
              after_steps s (stay_steps here) r.steps zs (g.stays (ap suc h))
              ∙ stay_is s.ranges s.clocks here zs
              ∙ walk_done s k v.0 zs (zones_all s) here (omega arith) v.1.1 v.1.0;
        }

    ahead_ends : size s < k → Ahead s (suc k) r.there next
    ahead_ends h =
        record {
          moving = λ o. absurd (omega arith);
          over = λ _. after_steps s [] r.steps zs (g.ends (omega arith)) ∙ no_steps s zs ∙ a.over h;
        }

    -- behind one segment more
    pub ahead_next : Ahead s (suc k) r.there next
    ahead_next = first (ltb k (size s)) refl
      where
        second : (t : Bool) → eqb k (size s) ≡ t → size s ≤ k → Ahead s (suc k) r.there next
        second true e h = ahead_stays (eqb-true k (size s) e)
        second false e h = ahead_ends (past k (size s) h (eqb-false k (size s) e))
          where
            past : (k n : ℕ) → n ≤ k → (k ≡ n → ⊥) → n < k
            past k n h o = omega (arith, o)

        first : (t : Bool) → ltb k (size s) ≡ t → Ahead s (suc k) r.there next
        first true e = ahead_moves (ltb-true k (size s) e)
        first false e = second (eqb k (size s)) refl (ltb-false k (size s) e)
