-- 64 bits hold the sum.
use mathlib.Core.Path.{subst, sym, ap, ◌∙◌}
use native.Mathlib.Omega.{arith}
use lib.IntN.{ℤ, ◌+ℤ◌, ◌*ℤ◌}
use mir.Syntax.{w16, w32}
use mir.Val.{SFits}
use Rattle.integer.specs.Bits.{heard}
use Rattle.inequalities.specs.Sizes.{SizedTo}
use Rattle.rows.proofs.Ends.{end_asks, end_is, end_size}
use borrow.Author.Rules.{rules}
use Rattle.rows.proofs.lines.at.Goals as goal

pub overflow_add-result : goal.overflow_add-result
overflow_add-result c =
    end_asks 4 _ _ (omega arith) c.requires c.term.ensures.small

pub returns : goal.returns
returns c =
    let t = c.term in
    let f : SFits w32 c.args.q.first = search rules in
    let is = end_is 4 c.args.q.constant t.result (omega arith) c.requires t.ensures.small in record {
      value = is ∙ ap (λ (z : ℤ). c.args.q.constant +ℤ z) (heard ◌*ℤ◌ w32 w16 _ c.args.q.first c.args.x t.ensures.value f c.ranges.x);
      small = subst (λ (z : ℤ). SizedTo 5 z) (sym is) (end_size 4 c.args.q.constant t.result (omega arith) c.requires t.ensures.small);
    }
