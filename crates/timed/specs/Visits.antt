-- Visits and counts of the steps along a route: a guard's visit is the number of moves made before it; there are as many moves as the
-- route has transitions, and one delay more.
use Rattle.std.specs.Prelude.{◌≡◌}
use Rattle.std.proofs.Math.Path.{refl, ap}
use Rattle.std.proofs.Common.{arith}
use mathlib.Core.List.{List, [], ◌∷◌, ◌++◌, map}
use Prim.Native.Nat.{ℕ, suc, ◌+◌}
use Rattle.guards.specs.declared.Guard.{Guard}
use Rattle.sheet.specs.declared.Sheet.{Sheet}
use Rattle.timed.specs.Automaton.{guards_of, transition_at}
use Rattle.timed.specs.Steps.{Step, delay, guard, resets, arrival_steps, move_steps, delays}
use Rattle.timed.specs.Steps.{moves}

-- every guard's visit is the number of moves made before it, k of them before the list
abbrev pub Visits : ℕ → List Step → Type 0
Visits k [] = Unit
Visits k (delay ∷ steps) = Visits k steps
Visits k (guard visit g ∷ steps) = (visit ≡ k) × Visits k steps
Visits k (resets bits ∷ steps) = Visits (suc k) steps

-- ---- guards, with what follows them
module _ (k : ℕ) (rest : List Step) where
  pub guards_visits : (gs : List Guard) → Visits k rest → Visits k (map (guard k) gs ++ rest)
  guards_visits [] h = h
  guards_visits (g ∷ gs) h = (refl, guards_visits gs h)

  pub guards_delays : (gs : List Guard) → delays (map (guard k) gs ++ rest) ≡ delays rest
  unfolding delays
  guards_delays [] = refl
  guards_delays (g ∷ gs) = guards_delays gs

  pub guards_moves : (gs : List Guard) → moves (map (guard k) gs ++ rest) ≡ moves rest
  unfolding moves
  guards_moves [] = refl
  guards_moves (g ∷ gs) = guards_moves gs

-- lists one after the other
pub append_nil : {A : Type 0} (xs : List A) → xs ++ [] ≡ xs
append_nil [] = refl
append_nil (x ∷ xs) = ap (λ ys. x ∷ ys) (append_nil xs)

append_assoc : {A : Type 0} (xs ys zs : List A) → (xs ++ ys) ++ zs ≡ xs ++ (ys ++ zs)
append_assoc [] ys zs = refl
append_assoc (x ∷ xs) ys zs = ap (λ l. x ∷ l) (append_assoc xs ys zs)

-- ---- the rest of a route
module _ (s : Sheet) where
  -- a transition, with what follows it
  abbrev pub resets_then : ℕ → ℕ → List Step → List Step
  resets_then k n rest = resets (transition_at s n).resets ∷ (arrival_steps s (suc k) (transition_at s n).to ++ rest)

  pub move_joined : (k n : ℕ) (rest : List Step) → move_steps s k n ++ rest ≡ map (guard k) (guards_of s n) ++ resets_then k n rest
  unfolding move_steps
  move_joined k n rest =
      append_assoc (map (guard k) (guards_of s n))
      (resets (transition_at s n).resets ∷ arrival_steps s (suc k) (transition_at s n).to) rest

-- ---- how many delays there were, one step after another
-- the number of delays after a step
abbrev pub after : ℕ → Step → ℕ
after k delay = suc k
after k (guard visit g) = k
after k (resets bits) = k

pub after_delays : (k : ℕ) (s : Step) (steps : List Step) → after k s + delays steps ≡ k + delays (s ∷ steps)
unfolding delays
after_delays k delay steps = omega arith
after_delays k (guard visit g) steps = omega arith
after_delays k (resets bits) steps = omega arith

pub none_more : (k : ℕ) → k ≡ k + delays []
unfolding delays
none_more k = omega arith
