-- The loop's invariant: the sum so far, with the most that the products still to come add, is the most of all.
use mathlib.Core.Path.{◌≡◌}
use Prim.Native.Nat.{◌+◌}
use native.Mathlib.Omega.{arith}
use mir.Syntax.{w64}
use mir.Val.{to_z, of_z}
use mir.ValLaws.{to_z-of_z}
use Rattle.std.proofs.lemmas.Int.{ints}
use Rattle.narrowing.proofs.Terms.{sum_start, sum_next, sum_fits, sum_all}
use borrow.Author.Rules.{rules}
use Rattle.narrowing.proofs.boxes.best.Goals as goal

pub loop-i-init : goal.loop-i-init
loop-i-init c =
    let s = c.args in
    let e : to_z w64 (of_z w64 c.from-sum.result) ≡ s.e.constant = omega (arith, ints) in
    rw e (sum_start s.e s.b.list (search rules))

pub overflow_add-sum : goal.overflow_add-sum
overflow_add-sum c =
    let s = sum_next c.args.e c.args.b.list c.loop-i.i _ c.most-sum.result c.loop-i.invariant (omega arith) (search rules)
    (search rules) c.most-sum.ensures.value c.most-sum.ensures.small in
    sum_fits (c.loop-i.i + 1) _ (omega arith) s.size

pub loop-i-preserved : goal.loop-i-preserved
loop-i-preserved c =
    let s = sum_next c.args.e c.args.b.list c.loop-i.i _ c.most-sum.result c.loop-i.invariant (omega arith) (search rules)
    (search rules) c.most-sum.ensures.value c.most-sum.ensures.small in
    rw (to_z-of_z w64 _ (sum_fits (c.loop-i.i + 1) _ (omega arith) s.size)) s

pub returns-clause-value : goal.returns-clause-value
returns-clause-value c =
    (sum_all c.args.e c.args.b.list c.loop-i.i _ c.loop-i.invariant (omega arith) (omega arith)).0
