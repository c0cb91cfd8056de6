use mathlib.Core.Path.{◌≡◌}
use Prim.Native.Nat.{ℕ, ◌≤◌, ◌<◌}
use lib.ListN.{length, get_or}
use lib.Signed.{◌≤ℤ◌}
use Rattle.expr.specs.Records.{PARAMETERS, blank_range}
use Rattle.picking.proofs.picked.two.Given as goal

-- The loop's invariant: the ranges before i, but those at w and t, have one number at most.
abbrev pub invariant-loop-i : goal.invariant-loop-i
invariant-loop-i l = (l.i ≤ PARAMETERS) × (length l.b.list ≡ PARAMETERS)
    × ((j : ℕ) → j < l.i → (j ≡ l.w → ⊥) → (j ≡ l.t → ⊥) → (get_or l.b.list j blank_range).high ≤ℤ (get_or l.b.list j blank_range).low)
