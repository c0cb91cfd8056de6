-- Its value there.
use mathlib.Core.Path.{◌≡◌}
use mathlib.Core.Bool.{true}
use native.Mathlib.Omega.{arith}
use lib.IntN.{ℤ, pos}
use lib.Signed.{le_z}
use mir.Syntax.{w64}
use mir.Val.{to_z, of_z}
use mir.ValLaws.{to_z-of_z}
use Rattle.integer.specs.Apart.{apart}
use Rattle.integer.specs.Product.{size_fits}
use Rattle.settling.proofs.held.Goals as goal

at_least : (x y : ℤ) → x ≡ y → le_z (pos 0) x ≡ true → le_z (pos 0) y ≡ true
at_least x y e h = rw e at h

pub returns-then-h : goal.returns-then-h
returns-then-h c =
    let same : to_z w64 (of_z w64 c.value_at.result) ≡ c.value_at.result =
    to_z-of_z w64 _ (size_fits w64 _ (omega (arith, c.value_at.ensures.small))) in
    λ e. (c.if-h.true, at_least _ _ c.value_at.ensures.value (rw same at e))

pub returns : goal.returns
returns c = λ e. apart cc
