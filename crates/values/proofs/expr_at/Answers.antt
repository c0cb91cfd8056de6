-- The constant and a product for each parameter are small enough that 64 bits hold every sum; the last one is the value.
use Prim.Native.Nat.{◌+◌}
use native.Mathlib.Omega.{arith}
use lib.IntN.{pos, ◌+ℤ◌, ◌*ℤ◌}
use lib.ListN.{get_or}
use mir.Facts.{sfits_widen}
use mir.Syntax.{w16, w32, w64}
use mir.Val.{SFits, to_z, of_z}
use Rattle.integer.specs.Bits.{held, heard, passed}
use Rattle.integer.specs.Product.{product_fits}
use Rattle.values.proofs.Sums.{SumTo, sum_start, sum_turn, turn_fits, turn_stored, sum_all}
use borrow.Author.Rules.{rules}
use Rattle.values.proofs.expr_at.Goals.{After-product-sum}
use Rattle.values.proofs.expr_at.Goals as goal

pub loop-i-init : goal.loop-i-init
loop-i-init c =
    let start = c.args in
    let f : SFits w32 start.e.constant = search rules in (
      omega arith,
      rw (held w64 _ start.e.constant (passed w32 _ _ c.from-sum.ensures f) (sfits_widen {w = w32} tt f))
          (sum_start start.e start.v f),
    )

-- the sum with one product more
sum-next : (c : After-product-sum)
    → SumTo c.args.e
    c.args.v
    (c.loop-i.i + 1)
    (to_z w64 c.loop-i.sum-bits +ℤ to_z w64 (of_z w64 c.product-sum.result))
sum-next c =
    let turn = c.before.before.before in
    let loop = turn.loop-i in
    let start = turn.args in
    let a = get_or start.e.coefs loop.i (pos 0) in
    let b = get_or start.v.numbers loop.i (pos 0) in
    let f : SFits w32 a = search rules in
    let g : SFits w16 b = search rules in
    sum_turn start.e start.v loop.i _ _ loop.invariant.1 f g
    (held w64 _ (a *ℤ b) (heard ◌*ℤ◌ w32 w16 _ a b c.product-sum.ensures f g) (product_fits f g))

pub overflow_add-sum : goal.overflow_add-sum
overflow_add-sum c =
    let turn = c.before.before.before in
    let loop = turn.loop-i in
    let start = turn.args in
    turn_fits start.e start.v loop.i (to_z w64 loop.sum-bits) (to_z w64 (of_z w64 c.product-sum.result))
    turn.loop-i-test.true (sum-next c)

pub loop-i-preserved : goal.loop-i-preserved
loop-i-preserved c =
    let turn = c.before.before.before in
    let loop = turn.loop-i in
    let start = turn.args in (
      omega arith,
      turn_stored start.e start.v loop.i (to_z w64 loop.sum-bits) (to_z w64 (of_z w64 c.product-sum.result))
          turn.loop-i-test.true (sum-next c),
    )

pub returns : goal.returns
returns c =
    let loop = c.loop-i in
    let start = c.args in
    sum_all start.e start.v loop.i _ loop.invariant.1 loop.invariant.0 (omega arith)
