use mathlib.Core.Path.{◌≡◌}
use Prim.Native.Nat.{ℕ, ◌≤◌, ◌<◌}
use lib.IntN.{pos}
use lib.ListN.{length, get_or}
use Rattle.expr.specs.Ranges.{In}
use Rattle.expr.specs.Records.{PARAMETERS, blank_range}
use Rattle.corners.proofs.corners.inside.Given as goal

-- The loop's invariant: the numbers before i lie in their ranges.
abbrev pub invariant-loop-i : goal.invariant-loop-i
invariant-loop-i l = (l.i ≤ PARAMETERS) × (length l.b.list ≡ PARAMETERS) × (length l.v.numbers ≡ PARAMETERS)
    × ((j : ℕ) → j < l.i → In (get_or l.v.numbers j (pos 0)) (get_or l.b.list j blank_range))
