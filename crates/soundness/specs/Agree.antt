-- The cutting against Sweep, over any list of steps: the zones that hold a valuation, with it put in, are what Sweep leaves at it: none
-- where that is void, else one, with the same matrix.
use Rattle.std.specs.Prelude.{◌≡◌, refl, ℕ, ℤ}
use Rattle.std.proofs.Math.Path.{sym, ap}
use Rattle.std.proofs.Common.{◌∙◌}
use mathlib.Core.List.{List, [], ◌∷◌, ◌++◌, append_assoc}
use Rattle.cutting.specs.Cutting.{start_zone, Zone, listed, step_zones, cut_steps, zones_along}
use Rattle.cutting.specs.Held.{found, list_of}
use Rattle.cutting.specs.Listings.{listed_same, listed_first}
use Rattle.cutting.proofs.Works.{append_nil, each, each_kept, delay_found, guard_found, resets_found, start_at}
use Rattle.dbm.specs.Matrix.{Matrix, start, Outcome, void, kept}
use Rattle.expr.specs.Ranges.{Inside}
use Rattle.weight.specs.Upper.{Upper}
use Rattle.expr.specs.Records.{range_list}
use Rattle.valuations.specs.Valuations.{satisfies}
use Rattle.expr.specs.declared.range.Range.{Range}
use Rattle.sheet.specs.declared.Sheet.{Sheet}
use Rattle.concrete.specs.Walk.{and_then, step, walk, sweep_along}
use Rattle.timed.specs.Steps.{Step, delay, guard, resets, steps_of}

-- ---- one step after another on all matrices of a list
each_append : (f : Matrix (Upper ℤ) → Outcome) (xs ys : List (Matrix (Upper ℤ))) → each f (xs ++ ys) ≡ each f xs ++ each f ys
unfolding each
each_append f [] ys = refl
each_append f (x ∷ xs) ys = ap (λ (l : List (Matrix (Upper ℤ))). list_of (f x) ++ l) (each_append f xs ys)
    ∙ sym (append_assoc (list_of (f x)) (each f xs) (each f ys))

each_outcome : (g : Matrix (Upper ℤ) → Outcome) (r : Outcome) → each g (list_of r) ≡ list_of (and_then r g)
unfolding each
each_outcome g void = refl
each_outcome g (kept m) = append_nil (list_of (g m))

each_then : (f g : Matrix (Upper ℤ) → Outcome) (ms : List (Matrix (Upper ℤ))) → each g (each f ms) ≡ each (λ m. and_then (f m) g) ms
unfolding each
each_then f g [] = refl
each_then f g (m ∷ ms) =
    each_append g (list_of (f m)) (each f ms)
    ∙ ap (λ (l : List (Matrix (Upper ℤ))). l ++ each g (each f ms)) (each_outcome g (f m))
    ∙ ap (λ (l : List (Matrix (Upper ℤ))). list_of (and_then (f m) g) ++ l) (each_then f g ms)

-- ---- any list of steps
module _ (rs : List Range) (v : List ℤ) (inside-ranges : Inside v rs) (w : ℕ) where
  step_found : (s : Step) (zs zs' : List Zone) → step_zones rs w s zs ≡ listed zs' → found v zs' ≡ each (step w v s) (found v zs)
  unfolding step
  step_found delay zs zs' q = delay_found rs v inside-ranges w zs zs' q
  step_found (guard visit g) zs zs' q = guard_found rs v inside-ranges w zs zs' visit g q
  step_found (resets bits) zs zs' q = resets_found rs v inside-ranges w zs zs' bits q

  pub found_walk : (steps : List Step) (zs zs' : List Zone) → cut_steps rs w steps zs ≡ listed zs'
      → found v zs' ≡ each (walk w v steps) (found v zs)
  unfolding cut_steps walk
  found_walk [] zs zs' q = ap (found v) (sym (listed_same q)) ∙ sym (each_kept (found v zs))
  found_walk (s ∷ steps) zs zs' q =
      let (zs₁, a, b) = listed_first (step_zones rs w s zs) (cut_steps rs w steps) zs' q in
      found_walk steps zs₁ zs' b
      ∙ ap (each (walk w v steps)) (step_found s zs zs₁ a)
      ∙ each_then (step w v s) (walk w v steps) (found v zs)

-- from one zone, the zones that hold v are what Sweep leaves at v
pub found_steps : (rs : List Range) (v : List ℤ) → Inside v rs → (w : ℕ) (steps : List Step) (zs : List Zone)
    → cut_steps rs w steps (start_zone ∷ []) ≡ listed zs
    → found v zs ≡ list_of (walk w v steps start)
unfolding found each satisfies
found_steps rs v i w steps zs q =
    found_walk rs v i w steps (start_zone ∷ []) zs q
    ∙ ap (λ (m : Matrix (Upper ℤ)). each (walk w v steps) (m ∷ [])) (start_at v)
    ∙ append_nil (list_of (walk w v steps start))

-- along a route
pub found_along : (s : Sheet) (route : List ℕ) (v : List ℤ) → Inside v (range_list s.ranges) → (zs : List Zone)
    → zones_along s route ≡ listed zs
    → found v zs ≡ list_of (sweep_along s route v)
unfolding zones_along sweep_along
found_along s route v i zs q = found_steps (range_list s.ranges) v i s.clocks (steps_of s route) zs q
