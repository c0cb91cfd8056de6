-- The most that it can be there.
use mathlib.Core.Path.{◌≡◌, sym, ap, ◌∙◌}
use native.Mathlib.Omega.{arith}
use lib.IntN.{ℤ, pos}
use lib.ListN.{length}
use lib.Signed.{◌<ℤ◌}
use mir.Syntax.{w64}
use mir.Val.{to_z, of_z}
use mir.ValLaws.{to_z-of_z}
use Rattle.integer.specs.Order.{lt_z_true}
use Rattle.integer.specs.Product.{size_fits}
use Rattle.expr.specs.Records.{affine, blank_range}
use Rattle.narrowing.specs.Best.{best_of}
use Rattle.systems.specs.BoxLaws.{places_all}
use borrow.Author.Rules.{rules}
use Rattle.settling.proofs.fails.Goals as goal

below-is : (x y : ℤ) → x ≡ y → x <ℤ pos 0 → y <ℤ pos 0
below-is x y e h = rw e at h

pub returns : goal.returns
returns c =
    let a = c.args in
    let four : length a.h.ranges.list ≡ 4 = search rules in
    let same : to_z w64 (of_z w64 c.best.result) ≡ c.best.result =
    to_z-of_z w64 _ (size_fits w64 _ (omega (arith, c.best.ensures.small))) in
    λ e. below-is _ _ (c.best.ensures.value ∙ ap (best_of (affine a.e)) (sym (places_all blank_range a.h.ranges.list four)))
    (lt_z_true (rw same at e))
