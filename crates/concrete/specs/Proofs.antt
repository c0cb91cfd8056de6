-- The proofs of `Claims`: Sweep against runs, along any route.
use Rattle.std.specs.Prelude.{◌≡◌, refl, List, true, false, ℕ, ◌*◌, ◌≤◌, ℤ, pos, ◌-ℤ◌, ◌*ℤ◌}
use Rattle.std.proofs.Common.{sym, subst, ◌∙◌, arith}
use Rattle.integer.specs.Parts.{p, n, -parts, zs}
use Rattle.dbm.specs.Matrix.{Matrix, start, Outcome, void, kept, Keeps, State, Meets, times, Reached}
use Rattle.dbm.specs.Weights.{keeps_in}
use Rattle.dbm.specs.State.{difference_times, closed_state, start_closed, start_met}
use Rattle.dbm.proofs.Tight.{closed_tight, times_reached, times_above, times_near}
use Rattle.weight.specs.Upper.{Upper, none, upper, zero_w}
use Rattle.sheet.specs.declared.Sheet.{Sheet}
use Rattle.sheet.specs.WellFormed.{WellFormed}
use Rattle.timed.specs.Automaton.{route_of}
use Rattle.timed.proofs.Right.{steps_right}
use Rattle.timed.specs.Runs.{Clocks, begin, RunAlong, difference, TightestAlong}
use Rattle.timed.specs.Steps.{steps_of}
use Rattle.concrete.specs.Walk.{sweep_along, sweep_at}
use Rattle.concrete.specs.Claims.{AlongRight, VoidIffNoRun, EntriesTightest}
use Rattle.concrete.specs.Moves.{Relation, Same, Moves}
use Rattle.concrete.specs.Route.{starts_along, along_starts}
use Rattle.concrete.specs.Steps.{Along, along_stable, walk_moves}

-- ---- the start
begin_state : {D : ℕ} → 1 ≤ D → State D begin
unfolding begin
begin_state g = record { parts = g; clock0 = refl }

begin_met : (w D : ℕ) → Meets w start D begin
unfolding begin
begin_met w D = start_met w D begin (λ i hi. refl)

no_more : {D : ℕ} (x z : ℤ) → Keeps D (x -ℤ z) zero_w → Keeps D (z -ℤ x) zero_w → x ≡ z
unfolding p n
no_more x z a b = omega (zs, keeps_in zero_w a, keeps_in zero_w b, -parts x z, -parts z x)

-- a state of the start has its clocks at 0
start_same : {w D : ℕ} {x : Clocks} → State D x → Meets w start D x → Same w x begin
unfolding start begin
start_same {w} {D} {x} s h i hi = no_more (x i) (x 0) (h i 0 hi (omega arith)) (h 0 i (omega arith) hi) ∙ s.clock0

-- ---- runs and the states of the last matrix
-- a run whose end is the state y, times some factor
record Ran (s : Sheet) (route : List ℕ) (v : List ℤ) (D : ℕ) (y : Clocks) : Type 0 where
  factor : ℕ
  some : 1 ≤ factor
  run : RunAlong s route v
  parts : run.parts ≡ factor * D
  ends : Same s.clocks run.end (times factor y)

ran_difference : {s : Sheet} {route : List ℕ} {v : List ℤ} {D : ℕ} {y : Clocks} (r : Ran s route v D y) (i j : ℕ) → i ≤ s.clocks
    → j ≤ s.clocks
    → difference i j r.run ≡ pos r.factor *ℤ (y i -ℤ y j)
ran_difference {y = y} r i j hi hj = rw (r.ends i hi, r.ends j hj) (difference_times r.factor y i j)

module _ {s : Sheet} (f : WellFormed s) (route : List ℕ) (v : List ℤ) where
  -- the outcome is right for the steps along the route
  abbrev Steps : Relation
  Steps = Along v (steps_of s route)

  abbrev Runs : Outcome → Type 0
  Runs = Moves s.clocks start Steps

  sweep_moves : Runs (sweep_along s route v)
  unfolding sweep_along
  sweep_moves = walk_moves s.parameters v (steps_of s route) (steps_right f route) start (start_closed s.clocks)

  -- a run makes these steps, and they lead where a run goes
  run_steps : (r : RunAlong s route v) → Steps r.parts begin r.end
  run_steps r = starts_along s v route r.parts begin r.end r.starts r.leads

  abbrev steps_run : (D : ℕ) (y : Clocks) → 1 ≤ D → Steps D begin y → RunAlong s route v
  steps_run D y h l =
      let (a, r) = along_starts s v route D begin y l in
      record { parts = D; some_part = h; starts = a; end = y; leads = r }

  void_no_run : Runs void → RunAlong s route v → ⊥
  void_no_run a r = a r.parts begin r.end (begin_state r.some_part) (begin_met s.clocks r.parts) (run_steps r)

  module _ {m : Matrix (Upper ℤ)} (a : Runs (kept m)) where
    run_meets : (r : RunAlong s route v) → Meets s.clocks m r.parts r.end
    run_meets r = (a.forward r.parts begin r.end (begin_state r.some_part) (begin_met s.clocks r.parts) (run_steps r)).1

    state_run : {D : ℕ} {y : Clocks} → State D y → Meets s.clocks m D y → Ran s route v D y
    state_run {D} {y} t h =
        let c = a.back D y t h in
        let stable = along_stable s.parameters v (steps_of s route) (steps_right f route) in
        let (z, l, e) = stable.same (c.factor * D) c.before begin c.after (start_same c.state c.meets) c.leads in
        record {
          factor = c.factor;
          some = c.some;
          run = steps_run (c.factor * D) z c.state.parts l;
          parts = refl;
          ends = λ i hi. sym (e i hi) ∙ c.same i hi;
        }

    some_run : RunAlong s route v
    some_run = let (D, y, t, h) = closed_state s.clocks a.closed in (state_run t h).run

    -- ---- tightest
    module _ (i j : ℕ) (hi : i ≤ s.clocks) (hj : j ≤ s.clocks) where
      by_weight : (b : Upper ℤ) → m i j ≡ b → Reached s.clocks m i j b → TightestAlong s route v i j b
      by_weight none e g = λ N.
          let (D, y, t, h, k) = g N in
          let r = state_run t h in
          (r.run, rw (r.parts, ran_difference r i j hi hj) (times_above r.factor D (y i -ℤ y j) N r.some k))
      by_weight (upper true c) e g = (
        λ r. (rw e at (run_meets r i j hi hj)).is_below,
        λ N o.
            let (D, y, t, h, k) = g N o in
            let r = state_run t h in
            (r.run, rw (r.parts, ran_difference r i j hi hj) (times_near r.factor D N (y i -ℤ y j) c r.some k)),
      )
      by_weight (upper false c) e g = (
        λ r. (rw e at (run_meets r i j hi hj)).is_below,
        let (D, y, t, h, k) = g in
            let r = state_run t h in
            (r.run, rw (r.parts, ran_difference r i j hi hj) (times_reached r.factor D (y i -ℤ y j) c k)),
      )

      tightest : TightestAlong s route v i j (m i j)
      tightest = by_weight (m i j) refl (closed_tight a.closed hi hj)

  no_run_void : (r : Outcome) → Runs r → (RunAlong s route v → ⊥) → r ≡ void
  no_run_void void a h = refl
  no_run_void (kept m) a h = absurd (h (some_run a))

pub along_right : (s : Sheet) → WellFormed s → (route : List ℕ) (v : List ℤ) → AlongRight s route v
along_right s f route v = (
  (
    λ e. void_no_run f route v (subst (Runs f route v) e (sweep_moves f route v)),
    λ h. no_run_void f route v (sweep_along s route v) (sweep_moves f route v) h,
  ),
  λ m e i j hi hj. tightest f route v (subst (Runs f route v) e (sweep_moves f route v)) i j hi hj,
)

pub void_iff_no_run : VoidIffNoRun
unfolding sweep_at
void_iff_no_run s f v = (along_right s f (route_of s) v).0

pub entries_tightest : EntriesTightest
unfolding sweep_at
entries_tightest s f v = (along_right s f (route_of s) v).1
