-- Kept and cut (paper 01, "Cutting the ranges"): the numbers of valuations that zones hold and that none holds.
use Rattle.std.specs.Prelude.{List, [], ◌∷◌, ℕ, suc, ◌+◌, ◌-◌, ℤ}
use Rattle.valuations.specs.Valuations.{widths, count}
use Rattle.expr.specs.declared.range.Range.{Range}
use Rattle.cutting.specs.Cutting.{Zone}

-- n of the listed valuations have P
pub data Counted (P : List ℤ → Type 0) : List (List ℤ) → ℕ → Type 0 where
  nil : Counted P [] 0
  has : {v : List ℤ} {vs : List (List ℤ)} {n : ℕ} → P v → Counted P vs n → Counted P (v ∷ vs) (suc n)
  lacks : {v : List ℤ} {vs : List (List ℤ)} {n : ℕ} → (P v → ⊥) → Counted P vs n → Counted P (v ∷ vs) n

-- the zones' valuations, zone by zone
unfoldable pub kept_of : List Range → List Zone → ℕ
kept_of rs [] = 0
kept_of rs (z ∷ zs) = count rs z.ineqs + kept_of rs zs

-- the others
abbrev pub cut_of : List Range → List Zone → ℕ
cut_of rs zs = widths rs - kept_of rs zs
