-- `expr_in` meets its contract: the constant is a call's result, and its bits stand for it. Assumes nothing.
use Rattle.guards.specs.Guards.{guard_expr}
use Rattle.cursor_laws.specs.Signed.{kept_short, kept_wide}
use Rattle.guard_bytes.proofs.expr_in.Goals as goal

pub returns : goal.returns
unfolding guard_expr
returns c =
    let fits = c.ranges.constant in
    simp (c.from.ensures, c.signed_of.ensures, kept_short _ fits, kept_wide _ fits)
