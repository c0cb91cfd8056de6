-- `coef_step` meets its contract: the test on the way picks the definition's case. Assumes nothing.
use mathlib.Core.Path.{◌≡◌}
use Prim.Native.Nat.{ℕ}
use lib.IntN.{ℤ}
use mir.Syntax.{w16, w32}
use mir.Val.{Fits, to_z, of_z}
use borrow.Author.Tests.{lt-ltb, le-ltb}
use Rattle.cursor.specs.Cursor.{signed_of}
use Rattle.cursor_laws.specs.Signed.{kept_short, kept_wide}
use Rattle.guards.specs.Guards.{coef_step}
use borrow.Author.Rules.{rules}
use Rattle.guard_fields.proofs.coef_step.Goals as goal

-- the bits of a number that was stored stand for it
stored : (r s : ℤ) (w : ℕ) → r ≡ to_z w16 (of_z w16 s) → s ≡ signed_of w → Fits w16 w → to_z w32 (of_z w32 r) ≡ signed_of w
stored r s w e k f = rw (e, k, kept_short w f) (kept_wide w f)

pub returns-then-i-parameters : goal.returns-then-i-parameters
unfolding coef_step
returns-then-i-parameters c =
    simp (lt-ltb _ _ c.if-i-parameters.true, stored _ _ _ c.from.ensures c.signed_of.ensures (search rules))
    (simp c.signed_field-field.ensures)

pub returns-else-i-parameters : goal.returns-else-i-parameters
unfolding coef_step
returns-else-i-parameters c = simp (le-ltb _ _ c.if-i-parameters.false)
