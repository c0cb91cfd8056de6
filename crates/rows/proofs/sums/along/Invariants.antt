use mathlib.Core.Path.{◌≡◌}
use Prim.Native.Nat.{◌+◌, ◌-◌, ◌*◌, ◌≤◌}
use lib.IntN.{pos, ◌+ℤ◌}
use Rattle.valuations.specs.Valuations.{width}
use Rattle.rows.specs.Lines.{line_at}
use Rattle.rows.proofs.Steps.{row_width, sum_of}
use Rattle.rows.proofs.sums.along.Given as goal

-- The loop's invariant: what is counted so far, with the rows that are left, is the sum of all rows.
abbrev pub invariant-loop-i : goal.invariant-loop-i
invariant-loop-i l = let f = row_width (line_at l.l.numbers l.flat l.w l.t) l.n l.s in
    (l.i ≤ l.m) × (l.m ≤ 65536) × (l.m ≡ width l.range) × (l.total ≤ l.i * 65536)
    × (l.total + sum_of f (l.range.low +ℤ pos l.i) (l.m - l.i) ≡ sum_of f l.range.low l.m)
