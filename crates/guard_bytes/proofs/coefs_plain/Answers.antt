-- `coefs_plain` meets its contract. The invariant: the coefficients before i were read. Assumes nothing.
use Prim.Native.Nat.{ℕ}
use mathlib.Core.Path.{◌≡◌}
use native.Mathlib.Omega.{arith}
use lib.IntN.{ℤ}
use mir.Syntax.{w16, w32}
use mir.Val.{Fits, to_z, of_z}
use borrow.Author.Rules.{rules}
use Rattle.cursor.specs.Cursor.{signed_of}
use Rattle.cursor_laws.specs.Signed.{kept_short, kept_wide}
use Rattle.guards.specs.Guards.{zero_coefs}
use Rattle.guard_bytes.specs.Plain.{coefs_begun, coefs_more, coefs_done}
use Rattle.guard_bytes.proofs.coefs_plain.Goals as goal

-- the bits of a number that was stored stand for it
stored : (r s : ℤ) (w : ℕ) → r ≡ to_z w16 (of_z w16 s) → s ≡ signed_of w → Fits w16 w → to_z w32 (of_z w32 r) ≡ signed_of w
stored r s w e k f = rw (e, k, kept_short w f) (kept_wide w f)

pub loop-i-init : goal.loop-i-init
unfolding zero_coefs
loop-i-init c = coefs_begun _ _ _ _

pub loop-i-preserved : goal.loop-i-preserved
loop-i-preserved c =
    let turn = c.before.before.before in
    coefs_more _ _ _ _ _ _ _ _ _ _ turn.loop-i-test.true turn.loop-i.invariant turn.number_at-w.ensures c.within.ensures
    c.if-not-within.false (stored _ _ _ c.from.ensures c.signed_of.ensures (search rules))

pub returns : goal.returns
returns c = coefs_done _ _ _ _ c.loop-i.i _ _ (omega arith) (λ l. omega arith) c.loop-i.invariant
