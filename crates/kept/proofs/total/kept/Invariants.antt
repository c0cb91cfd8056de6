use mathlib.Core.Path.{◌≡◌}
use Prim.Native.Nat.{◌*◌, ◌≤◌}
use Rattle.kept.specs.Stacks.{held_on, zones_in}
use Rattle.kept.proofs.total.kept.Given as goal

-- The loop's invariant: what was counted is what the items before i hold.
abbrev pub invariant-loop-i : goal.invariant-loop-i
invariant-loop-i l = (l.i ≤ l.s.count) × (l.total ≤ l.i * 262144) × (l.total ≡ held_on l.b (zones_in l.cells l.counts) l.s.list l.i)
