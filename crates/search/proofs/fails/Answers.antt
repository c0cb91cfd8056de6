-- The last inequality is below 0 at its best.
use mathlib.Core.Path.{◌≡◌, ap, ◌∙◌}
use native.Mathlib.Omega.{arith}
use lib.IntN.{ℤ, pos}
use lib.Signed.{◌<ℤ◌}
use mir.Syntax.{w64}
use mir.Val.{to_z, of_z}
use mir.ValLaws.{to_z-of_z}
use Rattle.integer.specs.Apart.{apart}
use Rattle.integer.specs.Order.{lt_z_true}
use Rattle.integer.specs.Product.{size_fits}
use Rattle.expr.specs.Affine.{Affine}
use Rattle.inequalities.specs.Sizes.{SizedTo}
use Rattle.narrowing.specs.Best.{best_of}
use Rattle.systems.specs.BoxLaws.{best_nothing}
use Rattle.search.proofs.fails.Goals as goal

pub returns-then-n-eq0 : goal.returns-then-n-eq0
returns-then-n-eq0 c = λ e. apart cc

below-is : (x y : ℤ) → x ≡ y → x <ℤ pos 0 → y <ℤ pos 0
below-is x y e h = rw e at h

-- the local holds what `best` gave
best-is : (x : ℤ) → SizedTo 4 x → to_z w64 (of_z w64 x) ≡ x
best-is x h = to_z-of_z w64 x (size_fits w64 x (omega (arith, h)))

pub returns : goal.returns
returns c =
    let s = c.args in
    let e = c.best.ensures.value ∙ ap (λ (a : Affine). best_of a s.b.list) c.inequality.ensures in
    λ q. best_nothing s.flat.now s.n _ s.b.list (omega (arith, c.if-n-eq0.false))
    (below-is _ _ e (lt_z_true (rw (best-is c.best.result c.best.ensures.small) at q)))
