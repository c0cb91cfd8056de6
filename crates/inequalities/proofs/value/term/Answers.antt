-- 64 bits hold a product of 32 and 16 bits.
use mathlib.Core.Path.{subst, sym}
use lib.IntN.{ℤ, ◌*ℤ◌}
use mir.Facts.{sfits_widen}
use mir.Syntax.{w16, w32, w64}
use Rattle.integer.specs.Bits.{passed, op_fits, op_back}
use Rattle.integer.specs.Product.{product_fits, product_size, fits_size}
use Rattle.inequalities.specs.Sizes.{Sized}
use Rattle.inequalities.proofs.value.term.Goals as goal

pub overflow_mul-result : goal.overflow_mul-result
overflow_mul-result c =
    let s = c.before.before in
    let f = s.ranges.a in
    let g = s.ranges.x in
    op_fits ◌*ℤ◌ w64 _ _ s.args.a s.args.x (passed w32 _ _ c.from.ensures f) (passed w16 _ _ c.from-2.ensures g)
    (sfits_widen {w = w32} tt f) (sfits_widen {w = w16} tt g) (product_fits f g)

pub returns : goal.returns
returns c =
    let s = c.before.before in
    let f = s.ranges.a in
    let g = s.ranges.x in
    let e = op_back ◌*ℤ◌ w64 _ _ s.args.a s.args.x (passed w32 _ _ c.from.ensures f)
    (passed w16 _ _ c.from-2.ensures g) (sfits_widen {w = w32} tt f) (sfits_widen {w = w16} tt g) (product_fits f g) in
    record {
      value = e;
      small = subst (λ (z : ℤ). Sized z) (sym e) (product_size s.args.a s.args.x (fits_size f) (fits_size g));
    }
