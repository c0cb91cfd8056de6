-- The branches are the cases of `sum_b`.
use Rattle.expr.proofs.Cases.{sum_left, sum_right, sum_both}
use Rattle.expr.proofs.bound.Bound.sum.Goals as goal

pub returns-then-self : goal.returns-then-self
returns-then-self c = sum_left c.args.self c.args.other c.if-self.true

pub returns-then-other : goal.returns-then-other
returns-then-other c = sum_right c.args.self c.args.other c.if-self.false c.if-other.true

pub returns : goal.returns
returns c =
    let tested = c.before.before.before in
    let a = tested.args in
    sum_both a.self a.other _ tested.if-self.false tested.if-other.false c.plus.ensures
