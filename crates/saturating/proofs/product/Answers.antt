-- A number of 32 bits times one of 16 bits: 64 bits hold the product.
use lib.IntN.{◌*ℤ◌}
use mir.Facts.{sfits_widen}
use mir.Syntax.{w16, w32, w64}
use Rattle.integer.specs.Product.{product_fits}
use Rattle.integer.specs.Bits.{passed, op_fits, op_back}
use Rattle.saturating.proofs.product.Goals as goal

pub overflow_mul-result : goal.overflow_mul-result
overflow_mul-result c =
    let s = c.before.before in
    op_fits ◌*ℤ◌ w64 _ _ _ _ (passed w32 _ _ c.from.ensures s.ranges.x) (passed w16 _ _ c.from-2.ensures s.ranges.y)
    (sfits_widen tt s.ranges.x) (sfits_widen tt s.ranges.y) (product_fits s.ranges.x s.ranges.y)

pub returns : goal.returns
returns c =
    let s = c.before.before in
    op_back ◌*ℤ◌ w64 _ _ _ _ (passed w32 _ _ c.from.ensures s.ranges.x) (passed w16 _ _ c.from-2.ensures s.ranges.y)
    (sfits_widen tt s.ranges.x) (sfits_widen tt s.ranges.y) (product_fits s.ranges.x s.ranges.y)
