-- The measure is how many ranges have several numbers. The loop's invariant: what is counted so far, with the count of what is left of the
-- range, is the count of all, up to the largest usize.
use mathlib.Core.Path.{◌≡◌}
use Prim.Native.Nat.{◌+◌, ◌-◌, ◌≤◌, min}
use lib.IntN.{pos, ◌+ℤ◌}
use Rattle.inequalities.specs.Flat.{exprs_in}
use Rattle.picking.specs.Wides.{wides}
use Rattle.valuations.specs.Valuations.{count, width}
use Rattle.widths.specs.Cap.{CAP}
use Rattle.counting.proofs.Nodes.{total_of, count_at}
use Rattle.counting.proofs.counted.+count_from.Given as goal

abbrev pub decreases-count_from : goal.decreases-count_from
decreases-count_from l = wides l.b.list

abbrev pub invariant-loop-i : goal.invariant-loop-i
invariant-loop-i l =
    (l.i ≤ l.m) × (l.m ≤ 65536) × (l.m ≡ width l.range) × (l.total ≤ CAP)
    × (min (l.total + total_of (count_at (exprs_in l.flat l.n) l.c.list l.w) (l.range.low +ℤ pos l.i) (l.m - l.i)) CAP ≡ min
    (count l.c.list (exprs_in l.flat l.n)) CAP)
