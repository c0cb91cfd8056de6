-- The branches before the test are the cases of `tighter_b` with none; the sum is `test_by_sum`.
use Rattle.expr.proofs.Cases.{test_left, test_right, test_both, less_one_asks, plus_one_asks}
use Rattle.expr.proofs.bound.Bound.tighter.Goals as goal

pub returns-then-self : goal.returns-then-self
returns-then-self c = test_left c.args.self c.args.other c.if-self.true

pub returns-then-other : goal.returns-then-other
returns-then-other c = test_right c.args.self c.args.other c.if-self.false c.if-other.true

pub less_one-requires : goal.less_one-requires
less_one-requires c =
    let a = c.args in
    less_one_asks a.self.expr a.other.expr _ c.less.ensures

pub plus_one_where-requires : goal.plus_one_where-requires
plus_one_where-requires c =
    let lessened = c.before in
    let a = lessened.args in
    plus_one_asks a.self.expr a.other.expr _ lessened.less.ensures _ c.less_one.ensures

pub returns : goal.returns
returns c =
    let lessened = c.before.before in
    let tested = lessened.before.before.before.before.before in
    let a = tested.args in
    test_both a.self a.other _ _ _ tested.if-self.false tested.if-other.false lessened.less.ensures
    c.less_one.ensures c.plus_one_where.ensures
