-- The branches are the cases of `sum_w`; two numbers that were clamped have a sum that fits.
use mathlib.Core.Path.{refl}
use lib.IntN.{◌+ℤ◌}
use mir.Syntax.{w64}
use borrow.Author.Rules.{rules}
use Rattle.weight.specs.Upper.{MOST, saturate}
use Rattle.weight.specs.Fits.{within_fits, sum_fits}
use Rattle.integer.specs.Bits.{op_fits, op_back}
use Rattle.weight.proofs.Saturated.{sum_left, sum_right, sum_both, passed, room, most}
use Rattle.weight.proofs.Weight.sum.Goals as goal

pub returns-then-self : goal.returns-then-self
returns-then-self c = sum_left c.args.self c.args.other c.if-self.true

pub returns-then-other : goal.returns-then-other
returns-then-other c = sum_right c.args.self c.args.other c.if-self.false c.if-other.true

pub overflow_add-result : goal.overflow_add-result
overflow_add-result c =
    let first = c.before.before in
    let a = first.args in
    op_fits ◌+ℤ◌ w64 _ _ (saturate MOST a.self.value) (saturate MOST a.other.value)
    (passed a.self.value first.clamped.ensures (search rules))
    (passed a.other.value c.clamped-2.ensures (search rules))
    (within_fits room _ (most _)) (within_fits room _ (most _)) (sum_fits room _ _ (most _) (most _))

pub returns : goal.returns
returns c =
    let first = c.before.before in
    let tested = first.before.before.before.before in
    let a = tested.args in
    sum_both a.self a.other _ _ tested.if-self.false tested.if-other.false refl
    (op_back ◌+ℤ◌ w64 _ _ (saturate MOST a.self.value) (saturate MOST a.other.value)
    (passed a.self.value first.clamped.ensures (search rules))
    (passed a.other.value c.clamped-2.ensures (search rules))
    (within_fits room _ (most _)) (within_fits room _ (most _)) (sum_fits room _ _ (most _) (most _)))
