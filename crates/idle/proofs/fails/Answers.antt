-- The arms are the kinds of tests.
use mathlib.Core.Path.{◌≡◌, sym, ap, ◌∙◌}
use native.Mathlib.Omega.{arith}
use borrow.Author.Rules.{rules}
use lib.IntN.{ℤ, pos}
use lib.ListN.{length}
use lib.Signed.{◌<ℤ◌}
use mir.Syntax.{w64}
use mir.Val.{to_z, of_z}
use mir.ValLaws.{to_z-of_z}
use Rattle.integer.specs.Order.{lt_z_true}
use Rattle.integer.specs.Product.{size_fits}
use Rattle.expr.specs.Records.{affine, blank_range}
use Rattle.narrowing.specs.Best.{best_of}
use Rattle.systems.specs.BoxLaws.{places_all}
use Rattle.idle.proofs.Leaves.{fails_best, fails_no}
use Rattle.idle.proofs.fails.Goals.{After-best}
use Rattle.idle.proofs.fails.Goals as goal

pub returns-in-No : goal.returns-in-No
returns-in-No c = let a = c.args in λ _. fails_no a.hint a.test c.in-No.is

-- the local holds what `best` gave
best-is : (c : After-best) → to_z w64 (of_z w64 c.best.result) ≡ c.best.result
best-is c = to_z-of_z w64 _ (size_fits w64 _ (omega (arith, c.best.ensures.small)))

below-is : (x y : ℤ) → x ≡ y → x <ℤ pos 0 → y <ℤ pos 0
below-is x y e h = rw e at h

pub returns-in-Ask : goal.returns-in-Ask
returns-in-Ask c =
    let a = c.args in
    let four : length a.hint.ranges.list ≡ 4 = search rules in
    λ e. fails_best a.hint a.test _ c.in-Ask.is
    (below-is _ _ (c.best.ensures.value ∙ ap (best_of (affine c.in-Ask.e)) (sym (places_all blank_range a.hint.ranges.list four)))
    (lt_z_true (rw (best-is c) at e)))
