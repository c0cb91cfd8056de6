-- The constant turned round less one, and each coefficient turned round.
use native.Mathlib.Omega.{arith}
use lib.IntN.{pos}
use lib.ListN.{get_or}
use Rattle.saturating.specs.Sums.{turned_stored, negated_stored}
use Rattle.expr.specs.Affine.{opposite, saturated_e}
use Rattle.expr.proofs.Records.{expr_start, expr_turn, expr_all}
use borrow.Author.Rules.{rules}
use Rattle.expr.proofs.number.Expr.opposite.Goals as goal

pub loop-i-init : goal.loop-i-init
loop-i-init c =
    let start = c.args in (
      omega arith,
      expr_start _ _ _
          (turned_stored _ start.self.constant (search rules) c.difference.ensures),
    )

pub loop-i-preserved : goal.loop-i-preserved
loop-i-preserved c =
    let turn = c.before.before in
    let loop = turn.loop-i in
    let start = turn.args in (
      omega arith,
      expr_turn _ _ loop.i loop.r _ loop.invariant.1
          (negated_stored _ (get_or start.self.coefs loop.i (pos 0))
          (search rules) c.difference-in-loop-i.ensures),
    )

pub returns : goal.returns
unfolding opposite saturated_e
returns c =
    let loop = c.loop-i in
    expr_all _ _ loop.i loop.r loop.invariant.1 loop.invariant.0 (search rules)
