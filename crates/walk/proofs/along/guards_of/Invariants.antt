use Prim.Native.Nat.{◌≤◌}
use Rattle.expr.specs.Records.{point}
use Rattle.walk.specs.Walked.{guards_table}
use lib.ListN.{length, take, drop}
use mathlib.Core.Path.{◌≡◌}
use Rattle.walk.proofs.along.guards_of.Given as goal

-- The loop's invariant: what is left of the guards takes the matrix to where all of them take it.
abbrev pub invariant-loop-g : goal.invariant-loop-g
invariant-loop-g l = (l.n ≤ 6) × (l.n ≡ length (take l.count l.fn.guards))
    × (guards_table l.now l.clocks (point l.v) (drop l.g-index (take l.count l.fn.guards)) ≡ guards_table l.initial.now l.clocks (point l.v) (take l.count l.fn.guards))
