use Prim.Native.Nat.{ℕ, ◌≤◌}
use Rattle.expr.specs.Records.{point}
use Rattle.walk.specs.Walked.{walk_table, sweep_table}
use Rattle.sheet.specs.Lookup.{location_c}
use Rattle.index.specs.SheetIn.{sheet_in}
use lib.ListN.{length, take, drop}
use mathlib.Core.Path.{◌≡◌}
use Rattle.walk.proofs.along.walk.Given as goal

-- The loop's invariant: what is left of the route takes the matrix to where the whole route takes it.
abbrev pub invariant-loop-k : goal.invariant-loop-k
invariant-loop-k l = let s = sheet_in l.file l.ix in
    (l.n ≤ 32) × (l.n ≡ length (take s.moves s.route))
    × ((place : ℕ) × ((l.here ≡ location_c s place) × (walk_table s (point l.v) place (drop l.k (take s.moves s.route)) l.m ≡ sweep_table s (point l.v))))
