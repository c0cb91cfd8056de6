-- `zeros_plain` meets its contract. The invariant: the coefficients before i were read, and are zeros. Assumes nothing.
use native.Mathlib.Omega.{arith}
use Rattle.cursor_laws.specs.Laws.{no}
use Rattle.guard_bytes.specs.Plain.{zeros_begun, zeros_more, zeros_done}
use Rattle.guard_bytes.proofs.zeros_plain.Goals as goal

pub loop-i-init : goal.loop-i-init
loop-i-init c = zeros_begun _ _ _ _

pub returns-then-not-within : goal.returns-then-not-within
returns-then-not-within c = λ h. no h

pub loop-i-preserved : goal.loop-i-preserved
loop-i-preserved c =
    let turn = c.before.before in
    zeros_more _ _ _ _ _ _ _ (omega arith) turn.loop-i-test.true turn.loop-i.invariant turn.number_at.ensures c.within.ensures
    c.if-not-within.false

pub returns : goal.returns
returns c = λ h. zeros_done _ _ _ _ c.loop-i.i (omega arith) (λ l. omega arith) c.loop-i.invariant
