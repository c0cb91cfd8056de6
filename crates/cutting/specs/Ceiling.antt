-- The ceiling on tests (paper 02, request (j)), for every number of clocks and of parameters, every matrix, every guard and every way to a
-- zone that is listed. Its proof is in CeilingProof.
use Rattle.std.specs.Prelude.{◌≡◌, false, ◌&&◌, cond, ℕ, suc, ◌+◌, ◌*◌, ◌≤◌, eqb, pos, length}
use mathlib.Core.List.{List, [], ◌∷◌, ◌++◌, map, Memᴰ}
use Rattle.expr.specs.Affine.{Affine}
use Rattle.expr.specs.Bounds.{zero_b}
use Rattle.weight.specs.Upper.{Upper, upper}
use Rattle.expr.specs.declared.range.Range.{Range}
use Rattle.cutting.specs.Cutting.{Bounds, Zone, guard_tree, worked, listed}
use Rattle.cutting.specs.Ways.{Way, Outcome, leads, refuses, guard_ways, without_counts}

-- (w + 1)² + 2 for w clocks
abbrev pub CEILING : ℕ → ℕ
CEILING w = suc w * suc w + 2

-- `is` are the inequalities `before` and at most k more
pub record Adds (before is : List Affine) (k : ℕ) : Type 0 where
  pub added : List Affine
  pub same : is ≡ before ++ added
  pub few : length added ≤ k

-- a way that a guard leads to from a zone: so many tests at most, and an inequality for each at most
pub record Low (w : ℕ) (z : Zone) (way : Way) : Type 0 where
  pub tests : way.tests ≤ CEILING w
  pub ineqs : Adds z.ineqs way.zone.ineqs way.tests

-- ---- the ceiling is met: one clock from 0 to 10, and the guard 1 - 0 ≤ p with p from 0 to 20. Both rules and all four entries ask; a p
-- of 10 or more is settled by the second rule
abbrev pub up_to_ten : Bounds
up_to_ten i j = cond (eqb i 1 && eqb j 0) (upper false (record { constant = pos 10; coefs = [] })) zero_b

abbrev pub met : Outcome
met =
    guard_ways (record { low = pos 0; high = pos 20 } ∷ []) 0 1 1 0 (upper false (record { constant = pos 0; coefs = pos 1 ∷ [] }))
    (record { ineqs = []; bounds = up_to_ten })

abbrev pub counts : Outcome → List ℕ
counts (leads ws) = map (λ w. w.tests) ws
counts (refuses n v) = []

-- ---- the statement
pub record CeilingHolds : Type 0 where
  -- the zones, or the refusal, are those of the cutting
  pub same : (rs : List Range) (visit w i j : ℕ) (e : Upper Affine) (z : Zone)
      → without_counts (guard_ways rs visit w i j e z) ≡ worked rs visit (guard_tree w i j e z.bounds) z.ineqs (listed [])
  -- and every way is below the ceiling
  pub low : (rs : List Range) (visit w i j : ℕ) (e : Upper Affine) (z : Zone) (ws : List Way) → guard_ways rs visit w i j e z ≡ leads ws
      → (way : Way) → Memᴰ way ws → Low w z way
  pub four : CEILING 4 ≡ 27
  pub reached : counts met ≡ CEILING 1 ∷ 2 ∷ []
