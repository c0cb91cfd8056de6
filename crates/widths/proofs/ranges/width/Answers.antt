-- The width of a range that is not empty, as a number that is not below 0.
use mathlib.Core.Path.{◌≡◌, ap, sym}
use Prim.Native.Nat.{ℕ}
use native.Mathlib.Omega.{arith}
use lib.IntN.{pos, ◌+ℤ◌, ◌-ℤ◌}
use Rattle.std.proofs.lemmas.Int.{ints}
use Rattle.integer.specs.Parts.{p}
use Rattle.expr.specs.declared.range.Range.{Range}
use Rattle.valuations.specs.SearchLaws.{width_zero}
use Rattle.valuations.specs.Valuations.{width}
use Rattle.widths.proofs.ranges.width.Goals as goal

width_is : (r : Range) (m : ℕ) → pos m ≡ (r.high +ℤ pos 1) -ℤ r.low → m ≡ width r
unfolding width p
width_is r m e = ap p e

pub returns-then-low-high-clause-value : goal.returns-then-low-high-clause-value
returns-then-low-high-clause-value c = width_is c.args.range _ (grind (arith, ints))

pub returns-clause-value : goal.returns-clause-value
returns-clause-value c = sym (width_zero c.args.range (grind (arith, ints)))
