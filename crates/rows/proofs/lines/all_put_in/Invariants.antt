use mathlib.Core.Path.{◌≡◌}
use Prim.Native.Nat.{ℕ, ◌≤◌, ◌<◌}
use lib.IntN.{pos}
use lib.ListN.{length, get_or}
use Rattle.inequalities.specs.Flat.{expr_at}
use Rattle.rows.specs.Lines.{ValueOf}
use Rattle.rows.proofs.lines.all_put_in.Given as goal

-- The loop's invariant: the numbers before k are the values of their inequalities.
abbrev pub invariant-loop-k : goal.invariant-loop-k
invariant-loop-k l =
    (l.k ≤ l.n) × (length l.l.numbers ≡ 25)
    × ((j : ℕ) → j < l.k → ValueOf (expr_at l.flat j) l.v.numbers (get_or l.l.numbers j (pos 0)))
