-- The constant is more by the mark as a number, 1 or 0, which fits; the coefficients stay.
use mathlib.Core.Path.{ap}
use lib.IntN.{ℤ}
use borrow.Author.Rules.{rules}
use Rattle.expr.proofs.Sizes.{plus_where_fits, plus_where_is}
use Rattle.expr.proofs.number.Expr.plus_one_where.Goals as goal

pub overflow_add-r : goal.overflow_add-r
overflow_add-r c =
    let start = c.before.before in
    plus_where_fits start.args.self.constant start.args.b (search rules) start.requires

pub returns : goal.returns
returns c =
    let start = c.before.before in
    let e = start.args.self in
    ap (λ (x : ℤ). record { constant = x; coefs = e.coefs })
    (plus_where_is e.constant start.args.b (search rules) start.requires)
