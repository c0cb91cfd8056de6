-- The constant is one less, which fits; the coefficients stay.
use borrow.Author.Rules.{rules}
use mathlib.Core.Path.{ap}
use lib.IntN.{ℤ}
use Rattle.expr.proofs.Sizes.{less_fits, less_is}
use Rattle.expr.proofs.number.Expr.less_one.Goals as goal

pub overflow_sub-r : goal.overflow_sub-r
overflow_sub-r c = less_fits c.args.self.constant (search rules) c.requires

pub returns : goal.returns
returns c =
    let e = c.args.self in
    ap (λ (x : ℤ). record { constant = x; coefs = e.coefs })
    (less_is e.constant (search rules) c.requires)
