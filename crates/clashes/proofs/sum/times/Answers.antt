-- 64 bits hold a multiplier times a number of 32 bits.
use mathlib.Core.Path.{refl, subst, sym}
use lib.IntN.{ℤ, ◌*ℤ◌}
use mir.Facts.{sfits_widen}
use mir.Syntax.{w32, w64}
use Rattle.integer.specs.Bits.{passed, op_fits, op_back}
use Rattle.clashes.specs.Sizes.{SizedTerm}
use Rattle.clashes.proofs.Sums.{times_size, times_fits}
use Rattle.clashes.proofs.sum.times.Goals as goal

pub overflow_mul-result : goal.overflow_mul-result
overflow_mul-result c =
    let f = c.ranges.x in
    op_fits ◌*ℤ◌ w64 _ _ c.args.l c.args.x refl (passed w32 _ _ c.from.ensures f) c.ranges.l (sfits_widen {w = w32} tt f)
    (times_fits _ _ c.requires f)

pub returns : goal.returns
returns c =
    let f = c.ranges.x in
    let e = op_back ◌*ℤ◌ w64 _ _ c.args.l c.args.x refl (passed w32 _ _ c.from.ensures f) c.ranges.l
    (sfits_widen {w = w32} tt f) (times_fits _ _ c.requires f) in
    record { value = e; small = subst (λ (z : ℤ). SizedTerm z) (sym e) (times_size _ _ c.requires f) }
