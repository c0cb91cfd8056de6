-- Laws of listings: a refusal sticks, and what is listed in the end was listed on the way.
use Rattle.std.specs.Prelude.{◌≡◌, ℕ, suc, length}
use Rattle.std.proofs.Math.Path.{refl}
use Rattle.std.proofs.Common.{ap, ◌∙◌}
use mathlib.Core.List.{List, [], ◌∷◌, ◌++◌}
use Rattle.integer.specs.Apart.{apart}
use Rattle.expr.specs.Affine.{Affine}
use Rattle.expr.specs.Records.{bound_as}
use Rattle.expr.specs.declared.range.Range.{Range}
use Rattle.guards.specs.declared.Guard.{Guard}
use Rattle.timed.specs.Steps.{Step}
use Rattle.cutting.specs.Cutting.{Bounds, Zone, Tree, cut, keep, asks, guard_tree, Listing, listed, refused, worked}
use Rattle.cutting.specs.Cutting.{guard_zones, on_bounds, step_zones, and_then, cut_steps}

pub listed_same : {xs ys : List Zone} → listed xs ≡ listed ys → xs ≡ ys
listed_same h = cc

pub not_listed : {n k : ℕ} {ys : List Zone} → refused n k ≡ listed ys → ⊥
not_listed h = apart cc

pub worked_refused : (rs : List Range) (visit : ℕ) (t : Tree) (is : List Affine) (n k : ℕ)
    → worked rs visit t is (refused n k) ≡ refused n k
unfolding worked
worked_refused rs visit cut is n k = refl
worked_refused rs visit (keep m) is n k = refl
worked_refused rs visit (asks e f) is n k = refl

pub guards_refused : (rs : List Range) (visit w : ℕ) (g : Guard) (zs : List Zone) (n k : ℕ)
    → guard_zones rs visit w g zs (refused n k) ≡ refused n k
unfolding guard_zones
guards_refused rs visit w g [] n k = refl
guards_refused rs visit w g (z ∷ zs) n k =
    ap (guard_zones rs visit w g zs)
    (worked_refused rs visit (guard_tree w g.left g.right (bound_as g.bound) z.bounds) z.ineqs n k)
    ∙ guards_refused rs visit w g zs n k

pub listed_first : (o : Listing) (f : List Zone → Listing) (zs' : List Zone) → and_then o f ≡ listed zs'
    → (zs : List Zone) × (o ≡ listed zs) × (f zs ≡ listed zs')
listed_first (listed zs) f zs' h = (zs, refl, h)
listed_first (refused n k) f zs' h = absurd (not_listed h)

-- a step on every matrix keeps the number of zones
pub on_length : (f : Bounds → Bounds) (zs : List Zone) → length (on_bounds f zs) ≡ length zs
unfolding on_bounds
on_length f [] = refl
on_length f (z ∷ zs) = ap suc (on_length f zs)

-- ---- steps are made one after another: those of one list, then those of the other
module _ (rs : List Range) (w : ℕ) where
  after_listing : (xs ys : List Step) → ((zs : List Zone) → and_then (cut_steps rs w xs zs) (cut_steps rs w ys) ≡ cut_steps rs w (xs ++ ys) zs)
      → (o : Listing) → and_then (and_then o (cut_steps rs w xs)) (cut_steps rs w ys) ≡ and_then o (cut_steps rs w (xs ++ ys))
  after_listing xs ys h (listed zs) = h zs
  after_listing xs ys h (refused n k) = refl

  pub steps_append : (xs ys : List Step) (zs : List Zone) → and_then (cut_steps rs w xs zs) (cut_steps rs w ys) ≡ cut_steps rs w (xs ++ ys) zs
  unfolding cut_steps
  steps_append [] ys zs = refl
  steps_append (s ∷ xs) ys zs = after_listing xs ys (steps_append xs ys) (step_zones rs w s zs)
