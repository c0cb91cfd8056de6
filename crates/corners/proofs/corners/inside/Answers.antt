-- The loop's invariant: the numbers before i lie in their ranges.
use mathlib.Core.Path.{◌≡◌}
use native.Mathlib.Omega.{arith}
use lib.IntN.{pos}
use lib.ListN.{length, get_or}
use mir.Syntax.{w16}
use mir.Val.{SFits}
use mir.ValLaws.{to_z-of_z}
use Rattle.integer.specs.Apart.{apart}
use Rattle.expr.specs.Records.{PARAMETERS, blank_range}
use Rattle.corners.proofs.Lists.{below_out, above_out, in_both, in_more, inside_at, inside_all}
use borrow.Author.Rules.{rules}
use Rattle.corners.proofs.corners.inside.Goals as goal

pub loop-i-init : goal.loop-i-init
loop-i-init c =
    let l : length c.args.b.list ≡ PARAMETERS = c.well_formed.0.1.1.0.1.0.1 in
    let k : length c.args.v.numbers ≡ PARAMETERS = c.well_formed.1.0.1.1.0.1.0.1 in
    (omega arith, l, k, λ j g. absurd (omega arith))

pub returns-then-x-r : goal.returns-then-x-r
returns-then-x-r c =
    let x = c.before.before.before in
    let loop = x.loop-i in
    let start = x.args in
    let f : SFits w16 (get_or start.v.numbers loop.i (pos 0)) = search rules in record {
      yes = λ e. apart cc;
      no = λ e i. below_out _ (get_or start.b.list loop.i blank_range) _ _ (to_z-of_z w16 _ f)
          (to_z-of_z w16 _ (search rules)) c.if-x-r.true
          (inside_at loop.i start.v.numbers start.b.list (omega (arith, loop.invariant.1)) i);
    }

pub returns-then-r-x : goal.returns-then-r-x
returns-then-r-x c =
    let x = c.before.before.before.before.before.before in
    let loop = x.loop-i in
    let start = x.args in
    let f : SFits w16 (get_or start.v.numbers loop.i (pos 0)) = search rules in record {
      yes = λ e. apart cc;
      no = λ e i. above_out _ (get_or start.b.list loop.i blank_range) _ _ (to_z-of_z w16 _ f)
          (to_z-of_z w16 _ (search rules)) c.if-r-x.true
          (inside_at loop.i start.v.numbers start.b.list (omega (arith, loop.invariant.1)) i);
    }

pub loop-i-preserved : goal.loop-i-preserved
loop-i-preserved c =
    let x = c.before.before.before.before.before.before in
    let loop = x.loop-i in
    let start = x.args in
    let f : SFits w16 (get_or start.v.numbers loop.i (pos 0)) = search rules in (
      omega arith,
      loop.invariant.1,
      loop.invariant.2,
      in_more start.v.numbers start.b.list loop.i loop.invariant.3
          (in_both _ _ _ _ _ _ (to_z-of_z w16 _ f) (to_z-of_z w16 _
          (search rules))
          (to_z-of_z w16 _ f) (to_z-of_z w16 _ (search rules))
          c.if-x-r.false c.if-r-x.false),
    )

pub returns : goal.returns
returns c =
    let v = c.loop-i.invariant in
    let start = c.args in record {
      yes = λ e. inside_all start.v.numbers start.b.list (omega (arith, v.1, v.2)) (λ j g. v.3 j (omega (arith, v.1)));
      no = λ e. apart cc;
    }
