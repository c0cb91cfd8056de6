-- Inequality by inequality: those so far are met exactly where the kept ones are.
use mathlib.Core.Path.{◌≡◌, sym, ◌∙◌}
use native.Mathlib.Omega.{arith}
use lib.IntN.{ℤ}
use Rattle.inequalities.specs.Sizes.{SizedTo}
use mir.Syntax.{w64}
use mir.Val.{to_z, of_z}
use mir.ValLaws.{to_z-of_z}
use Rattle.integer.specs.Order.{lt_z_false}
use Rattle.integer.specs.Product.{size_fits}
use Rattle.sifting.specs.Sifting.{sifted_start, sifted_skip, sifted_keep, sifted_all}
use Rattle.sifting.proofs.sift.sifted.Goals as goal
use Rattle.sifting.proofs.sift.sifted.Goals.{then-best-lt0, else-best-lt0}

pub loop-k-init : goal.loop-k-init
loop-k-init c = sifted_start _ _ _ _ c.requires

pub overflow_add-m : goal.overflow_add-m
overflow_add-m c =
    omega (arith, c.loop-k.invariant.few, c.loop-k.invariant.fewer)

-- the best is a number of 64 bits
best-is : (x : ℤ) → SizedTo 4 x → to_z w64 (of_z w64 x) ≡ x
best-is x h = to_z-of_z w64 x (size_fits w64 x (omega (arith, h)))

pub loop-k-preserved : goal.loop-k-preserved
loop-k-preserved c =
    let i = c.loop-k in
    let a = c.args in
    let e = c.inequality-e.result in
    let turned = c.turned-worst.result.list in
    elim c.if-best-lt0.branch [
      | then-best-lt0 w ↦ rw (w.kept-is, w.m-is)
          (sifted_keep a.flat.now a.n turned i.kept i.m i.k i.invariant c.loop-k-test.true e c.inequality-e.ensures _ w.store.ensures)
      | else-best-lt0 w ↦ rw (w.kept-is, w.m-is)
          (sifted_skip a.flat.now a.n turned i.kept i.m i.k i.invariant c.loop-k-test.true e c.inequality-e.ensures c.best.result
          c.best.ensures.value (lt_z_false (rw (best-is c.best.result c.best.ensures.small) at w.if-best-lt0.false)))
    ]

pub shape_of-kept : goal.shape_of-kept
shape_of-kept c = c.loop-k.invariant.long ∙ sym c.requires

pub returns : goal.returns
returns c =
    sifted_all _ _ _ _ c.loop-k.m c.loop-k.k _ c.loop-k.invariant c.loop-k-test.false c.turned-worst.ensures
