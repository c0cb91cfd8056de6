-- Runs against the steps along a route: what leads from these clock values to those is the same. This alone looks at how the steps are
-- made.
use Rattle.std.specs.Prelude.{◌≡◌, ℕ, suc, ℤ}
use Rattle.std.proofs.Math.Path.{refl, ap, subst, fun_ext}
use Rattle.std.proofs.Common.{sym, ◌∙◌}
use mathlib.Core.List.{List, [], ◌∷◌, ◌++◌, map}
use Rattle.guards.specs.declared.Guard.{Guard}
use Rattle.sheet.specs.declared.Sheet.{Sheet}
use Rattle.timed.specs.Automaton.{invariants, guards_of, transition_at}
use Rattle.timed.specs.Runs.{Clocks, waited, after_resets, AllHold, Leads}
use Rattle.timed.specs.Steps.{Step, guard, resets, arrival_steps, stay_steps, move_steps, steps_from, steps_of}
use Rattle.concrete.specs.Moves.{Then}
use Rattle.concrete.specs.Steps.{Along}

-- ---- one list of steps after another
module _ (v : List ℤ) where
  join : (xs ys : List Step) (D : ℕ) (x z y : Clocks) → Along v xs D x z → Along v ys D z y → Along v (xs ++ ys) D x y
  unfolding Along
  join [] ys D x z y (u, e) b = subst (λ (c : Clocks). Along v ys D c y) e b
  join (s ∷ xs) ys D x z y (c, a, r) b = (c, a, join xs ys D c z y r b)

  split : (xs ys : List Step) (D : ℕ) (x y : Clocks) → Along v (xs ++ ys) D x y → Then (Along v xs) (Along v ys) D x y
  unfolding Along
  split [] ys D x y a = (x, (tt, refl), a)
  split (s ∷ xs) ys D x y (c, a, r) = let (z, b, q) = split xs ys D c y r in (z, (c, a, b), q)

  -- ---- guards
  guards_to : (visit : ℕ) (gs : List Guard) (D : ℕ) (x : Clocks) → AllHold D v x gs → Along v (map (guard visit) gs) D x x
  unfolding Along
  guards_to visit [] D x h = (tt, refl)
  guards_to visit (g ∷ gs) D x h = (x, (h.0, refl), guards_to visit gs D x h.1)

  guards_from_lem : (visit : ℕ) (gs : List Guard) (D : ℕ) (x y : Clocks) → Along v (map (guard visit) gs) D x y → AllHold D v x gs × (y ≡ x)
  unfolding Along
  guards_from_lem visit [] D x y (u, e) = (tt, e)
  guards_from_lem visit (g ∷ gs) D x y (z, (h, e), a) =
      let (k, f) = guards_from_lem visit gs D x y (subst (λ (c : Clocks). Along v (map (guard visit) gs) D c y) e a) in
      ((h, k), f)

module _ (s : Sheet) (v : List ℤ) where
  -- ---- a stay and a transition
  stay_to : (visit l D d : ℕ) (x : Clocks) → AllHold D v (waited d x) (invariants s l) → Along v (stay_steps s visit l) D x (waited d x)
  unfolding stay_steps Along
  stay_to visit l D d x h = (waited d x, (d, refl), guards_to v visit (invariants s l) D (waited d x) h)

  stay_from : (visit l D : ℕ) (x y : Clocks) → Along v (stay_steps s visit l) D x y
      → (d : ℕ) × AllHold D v (waited d x) (invariants s l) × (y ≡ waited d x)
  unfolding stay_steps Along
  stay_from visit l D x y (z, (d, e), a) =
      let (h, f) = guards_from_lem v visit (invariants s l) D z y a in
      (d, subst (λ (c : Clocks). AllHold D v c (invariants s l)) e h, f ∙ e)

  abbrev reset : ℕ → Clocks → Clocks
  reset n x = after_resets (transition_at s n).resets x

  abbrev Arrives : ℕ → ℕ → Clocks → Type 0
  Arrives n D x = AllHold D v (reset n x) (invariants s (transition_at s n).to)

  move_to : (visit n D : ℕ) (x : Clocks) → AllHold D v x (guards_of s n) → Arrives n D x → Along v (move_steps s visit n) D x (reset n x)
  unfolding move_steps arrival_steps Along
  move_to visit n D x h a =
      let to = (transition_at s n).to in
      join v (map (guard visit) (guards_of s n)) (resets (transition_at s n).resets ∷ arrival_steps s (suc visit) to) D x x (reset n x)
      (guards_to v visit (guards_of s n) D x h) (reset n x, refl, guards_to v (suc visit) (invariants s to) D (reset n x) a)

  move_from : (visit n D : ℕ) (x y : Clocks) → Along v (move_steps s visit n) D x y
      → AllHold D v x (guards_of s n) × Arrives n D x × (y ≡ reset n x)
  unfolding move_steps arrival_steps Along
  move_from visit n D x y a =
      let to = (transition_at s n).to in
      let (z, b, (c, e, r)) =
      split v (map (guard visit) (guards_of s n)) (resets (transition_at s n).resets ∷ arrival_steps s (suc visit) to) D x y a in
      let (h, g) = guards_from_lem v visit (guards_of s n) D x z b in
      let (k, f) = guards_from_lem v (suc visit) (invariants s to) D c y r in
      let at : c ≡ reset n x = e ∙ ap (reset n) g in
      (h, subst (λ (q : Clocks). AllHold D v q (invariants s to)) at k, f ∙ at)

  -- ---- the rest of a route
  leads_along : (ns : List ℕ) (visit l D : ℕ) (x y : Clocks) → Leads s v D l ns x y → Along v (steps_from s visit l ns) D x y
  unfolding Leads steps_from
  leads_along [] visit l D x y (d, h, e) =
      subst (λ (c : Clocks). Along v (stay_steps s visit l) D x c) (sym (fun_ext e)) (stay_to visit l D d x h)
  leads_along (n ∷ ns) visit l D x y (d, h, k, a, r) =
      let rest = steps_from s (suc visit) (transition_at s n).to ns in
      join v (stay_steps s visit l) (move_steps s visit n ++ rest) D x (waited d x) y (stay_to visit l D d x h)
      (join v (move_steps s visit n) rest D (waited d x) (reset n (waited d x)) y (move_to visit n D (waited d x) k a)
      (leads_along ns (suc visit) (transition_at s n).to D (reset n (waited d x)) y r))

  along_leads : (ns : List ℕ) (visit l D : ℕ) (x y : Clocks) → Along v (steps_from s visit l ns) D x y → Leads s v D l ns x y
  unfolding Leads steps_from
  along_leads [] visit l D x y a =
      let (d, h, e) = stay_from visit l D x y a in
      (d, h, λ i. ap (λ (c : Clocks). c i) e)
  along_leads (n ∷ ns) visit l D x y a =
      let rest = steps_from s (suc visit) (transition_at s n).to ns in
      let (z₁, a₁, b) = split v (stay_steps s visit l) (move_steps s visit n ++ rest) D x y a in
      let (z₂, a₂, c) = split v (move_steps s visit n) rest D z₁ y b in
      let (d, h, e) = stay_from visit l D x z₁ a₁ in
      let (k, m, f) = move_from visit n D z₁ z₂ a₂ in (
        d,
        h,
        subst (λ (q : Clocks). AllHold D v q (guards_of s n)) e k,
        subst (Arrives n D) e m,
        subst (λ (q : Clocks). Leads s v D (transition_at s n).to ns q y) (f ∙ ap (reset n) e)
            (along_leads ns (suc visit) (transition_at s n).to D z₂ y c),
      )

  -- ---- a whole route, from the start
  pub starts_along : (route : List ℕ) (D : ℕ) (x y : Clocks) → AllHold D v x (invariants s 0) → Leads s v D 0 route x y
      → Along v (steps_of s route) D x y
  unfolding steps_of arrival_steps
  starts_along route D x y h r =
      join v (arrival_steps s 0 0) (steps_from s 0 0 route) D x x y (guards_to v 0 (invariants s 0) D x h) (leads_along route 0 0 D x y r)

  pub along_starts : (route : List ℕ) (D : ℕ) (x y : Clocks) → Along v (steps_of s route) D x y
      → AllHold D v x (invariants s 0) × Leads s v D 0 route x y
  unfolding steps_of arrival_steps
  along_starts route D x y a =
      let (z, b, r) = split v (arrival_steps s 0 0) (steps_from s 0 0 route) D x y a in
      let (h, e) = guards_from_lem v 0 (invariants s 0) D x z b in
      (h, along_leads route 0 0 D x y (subst (λ (q : Clocks). Along v (steps_from s 0 0 route) D q y) e r))
