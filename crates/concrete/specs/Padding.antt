-- Sweep's steps touch nothing past the sheet's clocks: the proof of `Padded` of `Claims`.
use Rattle.std.specs.Prelude.{◌≡◌, refl, List, [], ◌∷◌, ℕ, ℤ}
use Rattle.std.proofs.Common.{subst, ◌∙◌}
use Rattle.dbm.specs.Matrix.{Matrix, start, Outcome, void, kept, Outside}
use Rattle.dbm.specs.Entries.{resets_outside}
use Rattle.dbm.proofs.Entries.{delayed_outside}
use Rattle.dbm.proofs.Guard.{guarded_outside}
use Rattle.weight.specs.Upper.{Upper, none}
use Rattle.expr.specs.Bounds.{at_v}
use Rattle.expr.specs.Records.{bound_as}
use Rattle.timed.specs.Automaton.{route_of}
use Rattle.timed.specs.Steps.{Step, delay, guard, resets, steps_of}
use Rattle.concrete.specs.Walk.{and_then, step, walk, sweep_along, sweep_at}
use Rattle.concrete.specs.Claims.{Padded}

-- the outcome, if it is a matrix, has the same padding
abbrev pub Pads : ℕ → Matrix (Upper ℤ) → Outcome → Type 0
Pads w m void = Unit
Pads w m (kept m') = (i j : ℕ) → Outside w i j → m' i j ≡ m i j

then_pads : (w : ℕ) (m : Matrix (Upper ℤ)) (f : Matrix (Upper ℤ) → Outcome) → ((m₁ : Matrix (Upper ℤ)) → Pads w m₁ (f m₁))
    → (r : Outcome) → Pads w m r → Pads w m (and_then r f)
then_pads w m f b void a = tt
then_pads w m f b (kept m₁) a = more (f m₁) (b m₁)
  where
    more : (r : Outcome) → Pads w m₁ r → Pads w m r
    more void q = tt
    more (kept m₂) q = λ i j h. q i j h ∙ a i j h

step_pads : (w : ℕ) (v : List ℤ) (s : Step) (m : Matrix (Upper ℤ)) → Pads w m (step w v s m)
unfolding step
step_pads w v delay m = delayed_outside w none m
step_pads w v (guard visit g) m = by (step w v (guard visit g) m) refl
  where
    by : (r : Outcome) → step w v (guard visit g) m ≡ r → Pads w m r
    by void e = tt
    by (kept m') e = guarded_outside w g.left g.right (at_v v (bound_as g.bound)) m e
step_pads w v (resets bits) m = resets_outside w bits m w

-- any list of steps
pub walk_pads : (w : ℕ) (v : List ℤ) (steps : List Step) (m : Matrix (Upper ℤ)) → Pads w m (walk w v steps m)
unfolding walk
walk_pads w v [] m = λ i j h. refl
walk_pads w v (s ∷ steps) m = then_pads w m (walk w v steps) (walk_pads w v steps) (step w v s m) (step_pads w v s m)

pub padded : Padded
unfolding sweep_at sweep_along start
padded s v m e i j h = subst (Pads s.clocks start) e (walk_pads s.clocks v (steps_of s (route_of s)) start) i j h
