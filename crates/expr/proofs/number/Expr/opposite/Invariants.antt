use Prim.Native.Nat.{ℕ}
use lib.IntN.{ℤ, pos, negsuc, neg_ℤ, ◌-ℤ◌}
use lib.ListN.{get_or}
use Rattle.weight.specs.Upper.{saturate}
use Rattle.saturating.specs.Largest.{LARGEST}
use Rattle.expr.specs.declared.number.Expr.{Expr}
use mathlib.Core.Path.{◌≡◌}
use Prim.Native.Nat.{◌≤◌}
use Rattle.expr.proofs.Records.{filled_e}
use Rattle.expr.proofs.number.Expr.opposite.Given as goal

abbrev pub turnedC : Expr → ℤ
turnedC e = negsuc 0 -ℤ saturate LARGEST e.constant

abbrev pub negatedC : Expr → ℕ → ℤ
negatedC e k = neg_ℤ (saturate LARGEST (get_or e.coefs k (pos 0)))

abbrev pub invariant-loop-i : goal.invariant-loop-i
invariant-loop-i l = (l.i ≤ 4) × (l.r ≡ filled_e (turnedC l.self) (λ k. negatedC l.self k) l.i)
