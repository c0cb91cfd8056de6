-- The branches are the two tests of `enters_c`.
use mathlib.Core.Path.{sym, ◌∙◌}
use Rattle.parts.proofs.Steps.{enters_yes, enters_no, enters_not}
use Rattle.parts.proofs.part.entry_after.Goals as goal

pub returns-then-is_yes : goal.returns-then-is_yes
returns-then-is_yes c =
    let a = c.args in
    enters_yes a.phase a.kind a.via a.was c.if-phase-gt1.true (sym c.is_yes.ensures ∙ c.if-is_yes.true)

pub returns-else-is_yes : goal.returns-else-is_yes
returns-else-is_yes c =
    let a = c.args in
    enters_no a.phase a.kind a.via a.was c.if-phase-gt1.true (sym c.is_yes.ensures ∙ c.if-is_yes.false)

pub returns-else-phase-gt1 : goal.returns-else-phase-gt1
returns-else-phase-gt1 c = let a = c.args in enters_not a.phase a.kind a.via a.was c.if-phase-gt1.false
