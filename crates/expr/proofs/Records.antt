-- The code's records put together from their numbers.
use mathlib.Core.Path.{◌≡◌, refl, ap, ◌∙◌}
use mathlib.Core.List.{List, [], ◌∷◌}
use Prim.Native.Nat.{ℕ, ◌+◌, ◌≤◌, ◌<◌}
use lib.IntN.{ℤ, pos}
use lib.ListN.{set, replicate}
use Rattle.expr.specs.Records.{PARAMETERS}
use Rattle.expr.specs.RecordLaws.{filled_to, filled_none, filled_next, filled_all}
use Rattle.expr.specs.declared.number.Expr.{Expr}

-- an expression whose constant is there, with i coefficients filled in
abbrev pub filled_e : ℤ → (ℕ → ℤ) → ℕ → Expr
filled_e constant f i = record { constant = constant; coefs = filled_to f i }

-- before the first coefficient
pub expr_start : (c : ℤ) (f : ℕ → ℤ) (x : ℤ) → x ≡ c
    → ◌≡◌ {A = Expr} (record { constant = x; coefs = replicate PARAMETERS (pos 0) }) (filled_e c f 0)
expr_start c f x e = rw (e, filled_none f) refl

-- one coefficient more
pub expr_turn : (c : ℤ) (f : ℕ → ℤ) (i : ℕ) (r : Expr) (x : ℤ) → r ≡ filled_e c f i → x ≡ f i
    → ◌≡◌ {A = Expr} (record { constant = r.constant; coefs = set r.coefs i x }) (filled_e c f (i + 1))
expr_turn c f i r x e h = rw (e, filled_next f i x h) refl

-- all of them
pub expr_all : (c : ℤ) (f : ℕ → ℤ) (i : ℕ) (r : Expr) → r ≡ filled_e c f i → i ≤ PARAMETERS → (i < PARAMETERS → ⊥)
    → r ≡ record { constant = c; coefs = f 0 ∷ f 1 ∷ f 2 ∷ f 3 ∷ [] }
expr_all c f i r e l h = e ∙ ap (λ (k : List ℤ). record { constant = c; coefs = k }) (filled_all f i l h)
