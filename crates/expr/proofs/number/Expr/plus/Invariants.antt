use mathlib.Core.Path.{◌≡◌}
use Prim.Native.Nat.{◌≤◌}
use lib.IntN.{pos}
use lib.ListN.{get_or}
use Rattle.expr.proofs.Records.{filled_e}
use Rattle.saturating.specs.Sums.{sum_c}
use Rattle.expr.proofs.number.Expr.plus.Given as goal

-- Each coefficient is the sum of the two, as the constant is.
abbrev pub invariant-loop-i : goal.invariant-loop-i
invariant-loop-i l = (l.i ≤ 4)
    × (l.r ≡ filled_e (sum_c l.self.constant l.other.constant) (λ k. sum_c (get_or l.self.coefs k (pos 0)) (get_or l.other.coefs k (pos 0))) l.i)
