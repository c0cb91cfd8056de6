-- The loop's invariant: the numbers before k are the values of their inequalities.
use mathlib.Core.Path.{refl, subst, sym, ap, ◌∙◌}
use native.Mathlib.Omega.{arith}
use lib.IntN.{ℤ}
use mir.Syntax.{w64}
use mir.Val.{to_z, of_z}
use mir.ValLaws.{to_z-of_z}
use Rattle.integer.specs.Product.{size_fits}
use Rattle.expr.specs.Affine.{Affine, value}
use Rattle.inequalities.specs.Flat.{expr_at}
use Rattle.inequalities.specs.Sizes.{SizedTo}
use Rattle.rows.specs.Lines.{ValueOf}
use Rattle.rows.proofs.Steps.{values_more, long_set}
use Rattle.rows.proofs.lines.all_put_in.Goals as goal

pub loop-k-init : goal.loop-k-init
loop-k-init c = (omega arith, refl, λ j h. absurd (omega arith))

pub loop-k-preserved : goal.loop-k-preserved
loop-k-preserved c =
    let loop = c.loop-k in
    let x = c.value_at-x.result in
    let is = to_z-of_z w64 x (size_fits w64 _ (omega (arith, c.value_at-x.ensures.small))) in
    let here : ValueOf (expr_at c.args.flat.now loop.k) c.args.v.numbers (to_z w64 (of_z w64 x)) = record {
      same = is ∙ c.value_at-x.ensures.value ∙ ap (λ (e : Affine). value e c.args.v.numbers) c.inequality.ensures;
      size = subst (λ (z : ℤ). SizedTo 4 z) (sym is) c.value_at-x.ensures.small;
    } in (
      omega arith,
      long_set loop.l.numbers loop.k 25 (to_z w64 (of_z w64 x)) loop.invariant.1,
      values_more _ _ loop.l.numbers loop.k (to_z w64 (of_z w64 x)) (omega (arith, loop.invariant.1, c.requires)) loop.invariant.2 here,
    )

pub returns : goal.returns
returns c =
    let loop = c.loop-k in
    λ j h. loop.invariant.2 j (omega (arith, c.loop-k-test.false))
