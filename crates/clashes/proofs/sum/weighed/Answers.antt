-- 64 bits hold the sum of two such products.
use mathlib.Core.Path.{refl}
use lib.IntN.{◌+ℤ◌, ◌*ℤ◌}
use mir.Syntax.{w32, w64}
use Rattle.integer.specs.Bits.{heard, op_fits, op_back}
use Rattle.clashes.proofs.Sums.{term_fits, both_fits, weigh_is}
use Rattle.clashes.proofs.sum.weighed.Goals as goal

pub overflow_add-result : goal.overflow_add-result
overflow_add-result c =
    let a = c.times in
    let b = c.times-2 in
    op_fits ◌+ℤ◌ w64 _ _ a.result b.result refl refl (term_fits _ a.ensures.small) (term_fits _ b.ensures.small)
    (both_fits _ _ a.ensures.small b.ensures.small)

pub returns : goal.returns
returns c =
    let a = c.times in
    let b = c.times-2 in
    let p = weigh_is c.args.l c.args.x c.args.m c.args.y a.result b.result _
    (heard ◌*ℤ◌ w64 w32 _ c.args.l c.args.x a.ensures.value c.ranges.l c.ranges.x)
    (heard ◌*ℤ◌ w64 w32 _ c.args.m c.args.y b.ensures.value c.ranges.m c.ranges.y) a.ensures.small b.ensures.small
    (op_back ◌+ℤ◌ w64 _ _ a.result b.result refl refl (term_fits _ a.ensures.small) (term_fits _ b.ensures.small)
    (both_fits _ _ a.ensures.small b.ensures.small)) in
    record { value = p.0; small = p.1 }
