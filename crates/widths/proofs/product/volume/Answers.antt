-- The loop's invariant: the product so far, times the widths still to come, is the product of all, up to the largest usize.
use native.Mathlib.Omega.{arith}
use Rattle.widths.proofs.Products.{volume_turn, volume_all}
use Rattle.widths.proofs.product.volume.Goals as goal

pub loop-r-preserved : goal.loop-r-preserved
loop-r-preserved c =
    let loop = c.loop-r in (
      omega arith,
      volume_turn c.args.b.list loop.r-index loop.total c.saturating_mul-total.result c.width-width.result (omega arith)
          c.width-width.ensures.value c.saturating_mul-total.ensures loop.invariant.1,
    )

pub returns : goal.returns
returns c =
    let loop = c.loop-r in
    volume_all c.args.b.list loop.r-index loop.total (omega arith) loop.invariant.0 loop.invariant.1
