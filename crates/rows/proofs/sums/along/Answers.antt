-- The loop's invariant: what is counted so far, with the rows that are left, is the sum of all rows.
use mathlib.Core.Path.{◌≡◌, ap, subst, ◌∙◌}
use mathlib.Core.List.{List}
use Prim.Native.Nat.{ℕ}
use native.Mathlib.Omega.{arith}
use lib.IntN.{ℤ, pos}
use lib.ListN.{length, get_or, set}
use mir.Syntax.{w16}
use mir.Val.{SFits}
use mir.ValLaws.{to_z-of_z}
use Rattle.expr.specs.Records.{PARAMETERS, blank_range}
use Rattle.inequalities.specs.Flat.{expr_at}
use Rattle.valuations.specs.Totals.{total_start}
use Rattle.rows.specs.Lines.{ValueOf, line_at}
use Rattle.rows.specs.RowLaws.{rows_counted}
use Rattle.rows.proofs.Steps.{row_width, sum_of, sum_turn, sum_done, line_of}
use borrow.Author.Rules.{rules}
use Rattle.rows.proofs.sums.along.Goals as goal

pub loop-i-init : goal.loop-i-init
loop-i-init c =
    (omega arith, c.width-m.ensures.small, c.width-m.ensures.value, omega arith, total_start _ _ _)

-- as many constants as there are lines at most
pub row-requires : goal.row-requires
row-requires c =
    let long : length c.all_put_in-l.result.numbers ≡ 25 = search rules in record {
      w_bound = (c.requires.w_bound.0.0, c.requires.w_bound.0.1.0);
      long = (omega (arith, long, c.requires.few.0), c.requires.few.1);
      sized = λ k h. (c.all_put_in-l.ensures k h).size;
    }

pub overflow_add-total : goal.overflow_add-total
overflow_add-total c =
    let loop = c.loop-i in
    omega (arith, loop.invariant.3, loop.invariant.1, c.width-total.ensures.small)

pub loop-i-preserved : goal.loop-i-preserved
loop-i-preserved c =
    let loop = c.loop-i in
    let a = c.args in
    let f : SFits w16 c.point-p.result.low = search rules in (
      omega arith,
      loop.invariant.1,
      loop.invariant.2,
      omega (arith, loop.invariant.3, c.width-total.ensures.small),
      sum_turn _ _ _ (get_or a.b.list a.w blank_range) _ loop.i loop.total _ _ _ (omega arith) (to_z-of_z w16 _ f) c.point-p.ensures
          c.row.ensures c.width-total.ensures.value loop.invariant.4,
    )

pub returns : goal.returns
returns c =
    let loop = c.loop-i in
    let a = c.args in
    let l : length a.b.list ≡ PARAMETERS = c.well_formed.0.1.1.0.1.0.1 in
    let m = c.width-m.result in
    let low = (get_or a.b.list a.w blank_range).low in
    let cs = c.all_put_in-l.result.numbers in
    let f = row_width (line_at cs a.flat.now a.w a.t) a.n (get_or a.b.list a.t blank_range) in
    let all = sum_done f low m loop.i loop.total (sum_of f low m) (omega arith) loop.invariant.4 in
    let two = c.requires.w_bound in record {
      value = all ∙ ap (λ (k : ℕ). sum_of f low k) loop.invariant.2
          ∙ rows_counted a.w a.t a.b.list two.1.0 two.1.1 two.0.1.1 (omega (arith, two.0.0))
          (omega (arith, two.0.1.0)) a.flat.now a.n (line_at cs a.flat.now a.w a.t)
          (λ j h. line_of cs a.flat.now _ a.w a.t j two.0.0 two.0.1.0
          (subst (λ (u : List ℤ). ValueOf (expr_at a.flat.now j) (set (set u a.t (pos 0)) a.w (pos 0)) (get_or cs j (pos 0)))
          c.corner-v.ensures (c.all_put_in-l.ensures j h)));
      small = omega (arith, loop.invariant.0, loop.invariant.1, loop.invariant.3);
    }
