-- The branches before the test are the cases of `tighter_w` with none; the test is `test_by_sum`.
use mathlib.Core.Bool.{not, ◌&&◌}
use borrow.Author.Rules.{rules}
use Rattle.weight.specs.Upper.{MOST, saturate}
use Rattle.weight.proofs.Saturated.{tighter_left, tighter_right, passed, most, less_asks, less_one_asks, plus_asks}
use Rattle.weight.proofs.Saturated.{plus_is, tighter_both}
use Rattle.weight.proofs.Weight.tighter.Goals as goal

pub returns-then-self : goal.returns-then-self
returns-then-self c = tighter_left c.args.self c.args.other c.if-self.true

pub returns-then-other : goal.returns-then-other
returns-then-other c = tighter_right c.args.self c.args.other c.if-self.false c.if-other.true

pub overflow_sub-result : goal.overflow_sub-result
overflow_sub-result c =
    let first = c.before.before in
    let a = first.args in
    less_asks _ _ (saturate MOST a.self.value) (saturate MOST a.other.value)
    (passed a.self.value c.clamped-2.ensures (search rules))
    (passed a.other.value first.clamped.ensures (search rules))
    (most _) (most _)

pub overflow_sub-result-2 : goal.overflow_sub-result-2
overflow_sub-result-2 c =
    let first = c.before.before in
    let a = first.args in
    less_one_asks _ _ (saturate MOST a.self.value) (saturate MOST a.other.value)
    (passed a.self.value c.clamped-2.ensures (search rules))
    (passed a.other.value first.clamped.ensures (search rules))
    (most _) (most _)

pub overflow_cast-result : goal.overflow_cast-result
overflow_cast-result c = tt

pub overflow_add-result : goal.overflow_add-result
overflow_add-result c =
    let second = c.before.before in
    let first = second.before.before in
    let a = first.args in
    plus_asks _ _ (saturate MOST a.self.value) (saturate MOST a.other.value)
    (passed a.self.value second.clamped-2.ensures (search rules))
    (passed a.other.value first.clamped.ensures (search rules))
    (most _) (most _) (a.self.strict && not a.other.strict)

pub returns : goal.returns
returns c =
    let second = c.before.before in
    let first = second.before.before in
    let tested = first.before.before in
    let a = tested.args in
    tighter_both a.self a.other _ tested.if-self.false tested.if-other.false
    (plus_is _ _ (saturate MOST a.self.value) (saturate MOST a.other.value)
    (passed a.self.value second.clamped-2.ensures (search rules))
    (passed a.other.value first.clamped.ensures (search rules))
    (most _) (most _) (a.self.strict && not a.other.strict))
