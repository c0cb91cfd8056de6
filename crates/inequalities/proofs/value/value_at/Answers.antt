-- The loop's invariant: the sum so far, with the products still to come, is the value.
use mathlib.Core.Path.{◌≡◌}
use Prim.Native.Nat.{◌+◌}
use native.Mathlib.Omega.{arith}
use lib.IntN.{pos, ◌+ℤ◌, ◌*ℤ◌}
use lib.ListN.{length, get_or}
use mir.Facts.{sfits_widen}
use mir.Syntax.{w16, w32, w64}
use mir.Val.{SFits, to_z, of_z}
use mir.ValLaws.{to_z-of_z}
use Rattle.integer.specs.Bits.{held, heard, passed}
use Rattle.integer.specs.Product.{size_fits}
use Rattle.expr.specs.Records.{PARAMETERS}
use Rattle.inequalities.proofs.Values.{ValueTo, value_start, value_turn, value_all, sum_fits}
use borrow.Author.Rules.{rules}
use Rattle.inequalities.proofs.value.value_at.Goals.{After-term-total}
use Rattle.inequalities.proofs.value.value_at.Goals as goal

pub loop-j-init : goal.loop-j-init
loop-j-init c =
    let s = c.args in
    let f : SFits w32 s.e.constant = search rules in (
      omega arith,
      rw (held w64 _ s.e.constant (passed w32 _ _ c.from-total.ensures f) (sfits_widen {w = w32} tt f))
          (value_start s.e s.v.numbers f),
    )

-- the sum with one product more
sum-next : (c : After-term-total)
    → let loop = c.loop-j in let s = c.args in
    ValueTo s.e s.v.numbers (loop.j + 1) (to_z w64 loop.total-bits +ℤ to_z w64 (of_z w64 c.term-total.result))
sum-next c =
    let loop = c.loop-j in
    let s = c.args in
    let l : length s.v.numbers ≡ PARAMETERS = search rules in
    let f : SFits w64 c.term-total.result = size_fits w64 _ (omega (arith, c.term-total.ensures.small)) in
    let a = get_or s.e.coefs loop.j (pos 0) in
    let x = get_or s.v.numbers loop.j (pos 0) in
    let g : SFits w32 a = search rules in
    let h : SFits w16 x = search rules in
    rw (to_z-of_z w64 c.term-total.result f) (value_turn s.e s.v.numbers loop.j _ c.term-total.result loop.invariant.1 (omega arith) l
    (heard ◌*ℤ◌ w32 w16 _ a x c.term-total.ensures.value g h) c.term-total.ensures.small)

pub overflow_add-total : goal.overflow_add-total
overflow_add-total c = sum_fits (c.loop-j.j + 1) _ (omega arith) (sum-next c).size

pub loop-j-preserved : goal.loop-j-preserved
loop-j-preserved c = (omega arith, rw (to_z-of_z w64 _ (overflow_add-total c)) (sum-next c))

pub returns : goal.returns
returns c =
    let s = c.args in
    let all = value_all s.e s.v.numbers c.loop-j.j _ c.loop-j.invariant.1 c.loop-j.invariant.0 (search rules) in
    record { value = all.0; small = all.1 }
