use mathlib.Core.Path.{◌≡◌}
use Prim.Native.Nat.{◌*◌, ◌≤◌, min}
use lib.ListN.{drop}
use Rattle.valuations.specs.Valuations.{widths}
use Rattle.widths.specs.Cap.{CAP}
use Rattle.widths.proofs.product.volume.Given as goal

-- The loop's invariant: the product so far, times the widths still to come, is the product of all, up to the largest usize.
abbrev pub invariant-loop-r : goal.invariant-loop-r
invariant-loop-r l = (l.total ≤ CAP) × (min (l.total * widths (drop l.r-index l.fn.b.list)) CAP ≡ min (widths l.fn.b.list) CAP)
