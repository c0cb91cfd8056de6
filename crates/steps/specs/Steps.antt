-- Steps along a route on zones, on the code's records: a wait, a guard, or resets with which a move is made.
use Rattle.std.specs.Prelude.{◌≡◌, refl, Bool, true, false, cond, Option, Some, None, List, [], ◌∷◌, ◌++◌, ℕ, ◌+◌, ◌-◌, ◌≤◌, ◌<◌, ltb, eqb}
use Rattle.std.specs.Prelude.{take, set, replicate}
use Rattle.std.proofs.Common.{sym, ap, ltb-true}
use Rattle.integer.specs.Apart.{apart}
use Rattle.delay.specs.Delayed.{delayed_zone, resets_zone, delayed_all, resets_all}
use Rattle.expr.specs.Records.{zero_bound, zero_expr}
use Rattle.expr.specs.declared.range.Ranges.{Ranges}
use Rattle.guards.specs.declared.Guard.{Guard}
use Rattle.parts.specs.declared.part.Halt.TheVariants as stops
use Rattle.parts.specs.declared.part.Part.{Part}
use Rattle.split.specs.Guarded.{guarded_c}
use Rattle.split.specs.Trees.{start_c}
use Rattle.steps.specs.declared.step.Step.{Step}
use Rattle.steps.specs.declared.step.Step.TheVariants as step
use Rattle.steps.specs.declared.step.Steps.{Steps}
use Rattle.zones.specs.Zone.{blank_zone}
use Rattle.zones.specs.declared.zone.Zone.{Zone}
use Rattle.zones.specs.declared.zone.Zones.{Zones}

-- what is read past the end of a list of zones
abbrev pub no_zone : Zone
no_zone = record { count = 0; ineqs = []; bounds = [] }

-- the visit, unless it was refused before
unfoldable pub at_visit : ℕ → Zones → Zones
at_visit k zs = cond (eqb zs.refusal 0) (record { refusal = zs.refusal; visit = k; count = zs.count; list = zs.list }) zs

-- the zones after a step
unfoldable pub step_c : Ranges → ℕ → Step → Zones → Zones
step_c b w step.Delay zs = delayed_all w zs
step_c b w (step.Guard g) zs = guarded_c b w g zs
step_c b w (step.Resets bits visit) zs = at_visit visit (resets_all w bits zs)

-- after steps in order
unfoldable pub steps_all : Ranges → ℕ → List Step → Zones → Zones
steps_all b w [] zs = zs
steps_all b w (st ∷ ss) zs = steps_all b w ss (step_c b w st zs)

-- the zones with blanks behind them
abbrev pub closed : Zones → Zones
closed zs =
    record {
      refusal = zs.refusal;
      visit = zs.visit;
      count = zs.count;
      list = take zs.count zs.list ++ replicate (32 - zs.count) blank_zone;
    }

-- at most 32 zones, and none with a refusal
pub record Fit (zs : Zones) : Type 0 where
  pub few : zs.count ≤ 32
  pub none : 0 < zs.refusal → zs.count ≡ 0

-- ---- lists of steps
unfoldable pub with_step_c : Steps → Step → Steps
with_step_c ss st = cond (ltb ss.count 20) (record { count = ss.count + 1; list = set ss.list ss.count st }) ss

unfoldable pub with_guards_c : Steps → List Guard → Steps
with_guards_c ss [] = ss
with_guards_c ss (g ∷ gs) = with_guards_c (with_step_c ss (step.Guard g)) gs

-- no guard: zeros
abbrev pub no_guard : Guard
no_guard = record { left = 0; right = 0; bound = zero_bound }

-- ---- what a step makes of one zone before its tests
unfoldable pub changed_c : Step → ℕ → Zone → Zone
changed_c step.Delay w z = delayed_zone w z
changed_c (step.Guard g) w z = z
changed_c (step.Resets bits visit) w z = resets_zone w bits z

abbrev pub kept_c : Zone → Part
kept_c z = record { phase = 27; halt = stops.Kept; tests = 0; test = zero_expr; zone = z }

-- a guard of clocks that there can be
unfoldable pub asks_c : Step → Bool
asks_c step.Delay = false
asks_c (step.Guard g) = cond (ltb g.left 5) (ltb g.right 5) false
asks_c (step.Resets bits visit) = false

-- the guard that a step puts to zones; zeros for another step
abbrev pub guard_of_c : Step → Guard
guard_of_c step.Delay = no_guard
guard_of_c (step.Guard g) = g
guard_of_c (step.Resets bits visit) = no_guard

-- the same, if it is of clocks that there can be
abbrev pub asked_c : Step → Option Guard
asked_c st = cond (asks_c st) (Some (guard_of_c st)) None

unfoldable pub part_c : Step → ℕ → Zone → Part
part_c st w z = cond (asks_c st) (start_c z) (kept_c (changed_c st w z))

-- ---- a step that asks
pub asked_is : (st : Step) (g : Guard) → Some g ≡ asked_c st → (asks_c st ≡ true) × (g ≡ guard_of_c st)
asked_is st g h = by (asks_c st) refl h
  where
    by : (t : Bool) → asks_c st ≡ t → Some g ≡ cond t (Some (guard_of_c st)) None → (asks_c st ≡ true) × (g ≡ guard_of_c st)
    by true e k = (e, cc)
    by false e k = apart cc

pub asked_step : (st : Step) (g : Guard) → Some g ≡ asked_c st → st ≡ step.Guard g
unfolding asks_c
asked_step step.Delay g h = apart cc
asked_step (step.Guard x) g h = ap step.Guard (sym (asked_is (step.Guard x) g h).1)
asked_step (step.Resets bits visit) g h = apart cc

pub asked_not : (st : Step) → None ≡ asked_c st → asks_c st ≡ false
asked_not st h = by (asks_c st) refl h
  where
    by : (t : Bool) → asks_c st ≡ t → None ≡ cond t (Some (guard_of_c st)) None → asks_c st ≡ false
    by true e k = apart cc
    by false e k = e

pub asks_clocks : (st : Step) → asks_c st ≡ true → ((guard_of_c st).left < 5) × ((guard_of_c st).right < 5)
unfolding asks_c
asks_clocks step.Delay h = apart cc
asks_clocks (step.Guard g) h = by (ltb g.left 5) (ltb g.right 5) refl refl h
  where
    by : (s t : Bool) → ltb g.left 5 ≡ s → ltb g.right 5 ≡ t → cond s t false ≡ true → (g.left < 5) × (g.right < 5)
    by true true e f h = (ltb-true g.left 5 e, ltb-true g.right 5 f)
    by true false e f h = apart cc
    by false t e f h = apart cc
asks_clocks (step.Resets bits visit) h = apart cc
