-- The branches are the phases.
use Rattle.parts.proofs.Steps.{void_yes, void_no, tight_yes, tight_no, push_answer}
use mathlib.Core.Path.{◌∙◌}
use Rattle.parts.proofs.part.answered.Goals as goal

pub returns-then-yes : goal.returns-then-yes
returns-then-yes c =
    let a = c.args in
    c.at.ensures ∙ void_yes a.r a.p _ c.if-p-lt1.true c.if-yes.true

pub returns-then-p-lt1 : goal.returns-then-p-lt1
returns-then-p-lt1 c =
    let a = c.args in
    c.at-then-p-lt1.ensures ∙ void_no a.r a.p _ c.if-p-lt1.true c.if-yes.false

pub returns-then-yes-2 : goal.returns-then-yes-2
returns-then-yes-2 c =
    let a = c.args in
    c.at-then-yes-2.ensures ∙ tight_yes a.r a.p _ c.if-p-lt1.false c.if-p-lt2.true c.if-yes-2.true

pub returns-then-p-lt2 : goal.returns-then-p-lt2
returns-then-p-lt2 c =
    let a = c.args in
    c.at-then-p-lt2.ensures ∙ tight_no a.r a.p _ c.if-p-lt1.false c.if-p-lt2.true c.if-yes-2.false

pub returns : goal.returns
returns c =
    let a = c.args in
    c.pushed.ensures ∙ push_answer a.r a.p _ c.if-p-lt1.false c.if-p-lt2.false
