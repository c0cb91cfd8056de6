-- What an accepted sheet says of the guards that a run meets, and of the steps along a route: each guard is on one clock of the sheet,
-- and has a bound; the sheet's own route has at most 32 transitions, and so 33 delays.
use Rattle.std.specs.Prelude.{◌≡◌, refl, Bool, true, false, ℕ, zero, suc, ◌≤◌, ◌<◌, ltb, length, get_or, take, ℤ, pos, ◌≤ℤ◌}
use mathlib.Core.List.{List, [], ◌∷◌, ◌++◌, map}
use Rattle.std.proofs.Common.{arith, ltb-true, ltb-false}
use Rattle.std.proofs.Math.ListN.{length-take, get_or-eq_default}
use Rattle.std.specs.Int.Signed.{≤ℤ_refl}
use Rattle.expr.specs.Ranges.{Inside}
use Rattle.expr.specs.Records.{PARAMETERS, places_from, blank_range, range_list}
use Rattle.expr.specs.declared.range.Range.{Range}
use Rattle.guards.specs.declared.Guard.{Guard}
use Rattle.sheet.specs.declared.Sheet.{Sheet}
use Rattle.automaton.specs.Automaton.{blank_location, blank_transition}
use Rattle.cursor_laws.specs.Right.{Filled}
use Rattle.guards.specs.Right.{GuardRight}
use Rattle.sheet.specs.WellFormed.{WellFormed}
use Rattle.timed.specs.Lists.{AllOf}
use Rattle.timed.specs.Automaton.{invariants, guards_of, transition_at, route_of}
use Rattle.timed.specs.Steps.{Step, delay, guard, resets, arrival_steps, stay_steps, move_steps}

-- the guards of the list are right for the sheet
abbrev pub GuardsAll : Sheet → List Guard → Type 0
GuardsAll s = AllOf (GuardRight s.parameters s.clocks)

-- a step is right: its guard is, if it has one
abbrev pub StepRight : ℕ → ℕ → Step → Type 0
StepRight parameters w delay = Unit
StepRight parameters w (guard visit g) = GuardRight parameters w g
StepRight parameters w (resets bits) = Unit

-- the steps of the list are right for the sheet
abbrev pub StepsAll : Sheet → List Step → Type 0
StepsAll s = AllOf (StepRight s.parameters s.clocks)

pub all_append : {A : Type 0} (P : A → Type 0) (xs ys : List A) → AllOf P xs → AllOf P ys → AllOf P (xs ++ ys)
all_append P [] ys h k = k
all_append P (x ∷ xs) ys h k = (h.0, all_append P xs ys h.1 k)

-- ---- counted lists
taken_all : {A : Type 0} (P : A → Type 0) (d : A) (l : List A) (count : ℕ) → count ≤ length l
    → ((k : ℕ) → k < count → P (get_or l k d)) → AllOf P (take count l)
taken_all P d [] zero h f = tt
taken_all P d [] (suc count) h f = absurd (omega arith)
taken_all P d (a ∷ l) zero h f = tt
taken_all P d (a ∷ l) (suc count) h f = (f 0 (omega arith), taken_all P d l count (omega arith) (λ k g. f (suc k) (omega arith)))

-- the counted places of a filled list
pub filled_all : {A : Type 0} {n count : ℕ} {d blank : A} {P : A → Type 0} {l : List A} → Filled n count d blank P l
    → AllOf P (take count l)
filled_all {A} {n} {count} {d} {blank} {P} {l} f = taken_all P d l count (rw f.long f.few) f.each

-- every place of a filled list, and every place past its end
module _ {A : Type 0} {n count : ℕ} {d blank : A} {P : A → Type 0} {l : List A} (f : Filled n count d blank P l)
    (Q : A → Type 0) (each : (a : A) → P a → Q a) (at-blank : Q blank) (at-end : Q d) where
  past_count : (k : ℕ) (b : Bool) → ltb k n ≡ b → count ≤ k → Q (get_or l k d)
  past_count k true e h = rw (f.past k h (ltb-true k n e)) at-blank
  past_count k false e h = rw (get_or-eq_default l d {n = k} (rw f.long (ltb-false k n e))) at-end

  by_count : (k : ℕ) (b : Bool) → ltb k count ≡ b → Q (get_or l k d)
  by_count k true e = each (get_or l k d) (f.each k (ltb-true k count e))
  by_count k false e = past_count k (ltb k n) refl (ltb-false k count e)

  pub filled_at : (k : ℕ) → Q (get_or l k d)
  filled_at k = by_count k (ltb k count) refl

-- a number for each parameter, or whatever stands for it
pub places_all : {A : Type 0} (P : A → Type 0) (d : A) (l : List A) (i n : ℕ) → ((k : ℕ) → P (get_or l k d)) → AllOf P (places_from d l i n)
places_all P d l i zero h = tt
places_all P d l i (suc n) h = (h i, places_all P d l (suc i) n h)

-- ---- the guards of a sheet
module _ {s : Sheet} (f : WellFormed s) where
  pub invariants_right : (l : ℕ) → GuardsAll s (invariants s l)
  unfolding invariants blank_location
  invariants_right l = filled_at f.location (λ a. GuardsAll s (take a.count a.guards)) (λ a g. filled_all g) tt tt l

  pub guards_right : (n : ℕ) → GuardsAll s (guards_of s n)
  unfolding guards_of blank_transition
  guards_right n = filled_at f.transition (λ a. GuardsAll s (take a.count a.guards)) (λ a g. filled_all g.guards) tt tt n

  -- ---- the steps along any route of it
  guards_all_lem : (visit : ℕ) (gs : List Guard) → GuardsAll s gs → StepsAll s (map (guard visit) gs)
  guards_all_lem visit [] r = tt
  guards_all_lem visit (g ∷ gs) r = (r.0, guards_all_lem visit gs r.1)

  pub arrival_right : (visit l : ℕ) → StepsAll s (arrival_steps s visit l)
  unfolding arrival_steps
  arrival_right visit l = guards_all_lem visit (invariants s l) (invariants_right l)

  pub stay_right : (visit l : ℕ) → StepsAll s (stay_steps s visit l)
  unfolding stay_steps
  stay_right visit l = (tt, guards_all_lem visit (invariants s l) (invariants_right l))

  pub move_right : (visit n : ℕ) → StepsAll s (move_steps s visit n)
  unfolding move_steps
  move_right visit n =
      let to = (transition_at s n).to in
      all_append (StepRight s.parameters s.clocks) (map (guard visit) (guards_of s n))
      (resets (transition_at s n).resets ∷ arrival_steps s (suc visit) to)
      (guards_all_lem visit (guards_of s n) (guards_right n)) (tt, arrival_right (suc visit) to)

  -- ---- the sheet's own route
  pub route_short : length (route_of s) ≤ 32
  unfolding route_of
  route_short = let few = f.route.few in simp length-take (omega arith)

-- ---- its ranges have a valuation: the lowest of each
abbrev pub lowest : Sheet → List ℤ
lowest s = map (λ r. r.low) (range_list s.ranges)

places_inside : (l : List Range) (i n : ℕ) → ((k : ℕ) → (get_or l k blank_range).low ≤ℤ (get_or l k blank_range).high)
    → Inside (map (λ r. r.low) (places_from blank_range l i n)) (places_from blank_range l i n)
places_inside l i zero h = tt
places_inside l i (suc n) h = (record { least = ≤ℤ_refl (get_or l i blank_range).low; most = h i }, places_inside l (suc i) n h)

pub lowest_inside : (s : Sheet) → WellFormed s → Inside (lowest s) (range_list s.ranges)
lowest_inside s f =
    places_inside s.ranges.list 0 PARAMETERS
    (filled_at f.ranges (λ r. r.low ≤ℤ r.high) (λ r h. h.order) (≤ℤ_refl (pos 0)) (≤ℤ_refl (pos 0)))
