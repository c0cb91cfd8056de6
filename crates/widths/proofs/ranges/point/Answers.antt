-- The number at n lies between the range's ends, so that it fits as they do.
use mathlib.Core.Path.{◌≡◌}
use Prim.Native.Nat.{ℕ, ◌<◌}
use native.Mathlib.Omega.{arith}
use lib.IntN.{ℤ, pos, ◌+ℤ◌}
use Rattle.std.proofs.lemmas.Int.{ints}
use Rattle.expr.specs.Ranges.{In}
use Rattle.expr.specs.declared.range.Range.{Range}
use Rattle.valuations.specs.SearchLaws.{width_in}
use Rattle.valuations.specs.Valuations.{width}
use Rattle.widths.proofs.ranges.point.Goals as goal

member : (r : Range) (k : ℕ) → k < width r → In (r.low +ℤ pos k) r
member r k h = (width_in r (r.low +ℤ pos k)).1 (omega (arith, ints), omega (arith, ints))

range_path : {a b c d : ℤ} → a ≡ c → b ≡ d → ◌≡◌ {A = Range} (record { low = a; high = b }) (record { low = c; high = d })
range_path e f = λ i. record { low = e i; high = f i }

pub overflow_cast-x : goal.overflow_cast-x
overflow_cast-x c =
    let m = member c.args.range c.args.n c.requires in
    omega (arith, ints)

pub overflow_add-x : goal.overflow_add-x
overflow_add-x c =
    let m = member c.args.range c.args.n c.requires in
    omega (arith, ints)

pub overflow_cast-x-2 : goal.overflow_cast-x-2
overflow_cast-x-2 c =
    let m = member c.args.range c.args.n c.requires in
    omega (arith, ints)

pub returns : goal.returns
returns c =
    let m = member c.args.range c.args.n c.requires in
    range_path (omega (arith, ints)) (omega (arith, ints))
