use mathlib.Core.Path.{◌≡◌}
use Prim.Native.Nat.{◌≤◌}
use lib.ListN.{length, take}
use Rattle.kept.specs.Stacks.{zones_in}
use Rattle.kept.specs.StackLaws.{Stacked, left_of}
use Rattle.kept.proofs.stack.stacked.Given as goal

-- The loop's invariant: what the stack and the zones still to come hold together is what all zones hold.
abbrev pub invariant-loop-s : goal.invariant-loop-s
invariant-loop-s l = (l.m ≤ 32) × (l.m ≡ length (take l.n (zones_in l.cells l.counts))) × Stacked (zones_in l.cells l.counts) l.n l.m l.s

abbrev pub decreases-loop-s : goal.decreases-loop-s
decreases-loop-s l = left_of l.m l.s
