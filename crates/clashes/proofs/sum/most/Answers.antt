-- The coefficient's sign says which end of the range gives the most.
use mathlib.Core.Path.{refl}
use mathlib.Core.Bool.{true, false}
use lib.IntN.{◌*ℤ◌}
use mir.Facts.{sfits_widen}
use mir.Syntax.{w16, w64}
use mir.Val.{SFits}
use mir.ValLaws.{to_z-of_z}
use Rattle.integer.specs.Bits.{passed, op_fits, op_back}
use Rattle.clashes.proofs.Sums.{end_fits, most_is}
use borrow.Author.Rules.{rules}
use Rattle.clashes.proofs.sum.most.Goals as goal

pub overflow_mul-result : goal.overflow_mul-result
overflow_mul-result c =
    let g : SFits w16 c.args.r.high = search rules in
    op_fits ◌*ℤ◌ w64 _ _ c.args.a c.args.r.high refl (passed w16 _ _ c.from.ensures g) c.ranges.a
    (sfits_widen {w = w16} tt g) (end_fits _ _ c.requires g)

pub returns-then-a-ge0 : goal.returns-then-a-ge0
returns-then-a-ge0 c =
    let g : SFits w16 c.args.r.high = search rules in
    let p = most_is c.args.a c.args.r true _ c.args.r.high refl
    (rw (to_z-of_z w64 _ c.ranges.a) at c.if-a-ge0.true)
    (op_back ◌*ℤ◌ w64 _ _ c.args.a c.args.r.high refl (passed w16 _ _ c.from.ensures g) c.ranges.a
    (sfits_widen {w = w16} tt g) (end_fits _ _ c.requires g)) c.requires g in
    record { value = p.0; small = p.1 }

pub overflow_mul-result-2 : goal.overflow_mul-result-2
overflow_mul-result-2 c =
    let g : SFits w16 c.args.r.low = search rules in
    op_fits ◌*ℤ◌ w64 _ _ c.args.a c.args.r.low refl (passed w16 _ _ c.from-2.ensures g) c.ranges.a
    (sfits_widen {w = w16} tt g) (end_fits _ _ c.requires g)

pub returns : goal.returns
returns c =
    let g : SFits w16 c.args.r.low = search rules in
    let p = most_is c.args.a c.args.r false _ c.args.r.low refl
    (rw (to_z-of_z w64 _ c.ranges.a) at c.if-a-ge0.false)
    (op_back ◌*ℤ◌ w64 _ _ c.args.a c.args.r.low refl (passed w16 _ _ c.from-2.ensures g) c.ranges.a
    (sfits_widen {w = w16} tt g) (end_fits _ _ c.requires g)) c.requires g in
    record { value = p.0; small = p.1 }
