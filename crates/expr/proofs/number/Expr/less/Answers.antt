-- Each coefficient is the difference of the two, as the constant is.
use native.Mathlib.Omega.{arith}
use lib.IntN.{pos}
use lib.ListN.{get_or}
use Rattle.expr.specs.Affine.{minus, minus_l, saturated_e}
use Rattle.expr.proofs.Records.{expr_start, expr_turn, expr_all}
use Rattle.saturating.specs.Sums.{difference_stored}
use borrow.Author.Rules.{rules}
use Rattle.expr.proofs.number.Expr.less.Goals as goal

pub loop-i-init : goal.loop-i-init
loop-i-init c =
    let start = c.args in
    let t = c.struct_told-1.given in
    let u = c.struct_told-2-1.given in (
      omega arith,
      expr_start _ _ _
          (difference_stored _ start.self.constant start.other.constant
          (search rules) (search rules) c.difference.ensures),
    )

pub loop-i-preserved : goal.loop-i-preserved
loop-i-preserved c =
    let turn = c.before.before.before in
    let loop = turn.loop-i in
    let start = turn.args in (
      omega arith,
      expr_turn _ _ loop.i loop.r _ loop.invariant.1
          (difference_stored _ (get_or start.self.coefs loop.i (pos 0)) (get_or start.other.coefs loop.i (pos 0))
          (search rules) (search rules)
          c.difference-in-loop-i.ensures),
    )

pub returns : goal.returns
unfolding minus minus_l saturated_e
returns c =
    let loop = c.loop-i in
    expr_all _ _ loop.i loop.r loop.invariant.1 loop.invariant.0 (search rules)
