-- The branches are the cases of `settled_n`.
use Rattle.parts.proofs.Steps.{after_void_no, after_void_yes, after_tight_no, after_tight_yes}
use Rattle.parts.proofs.Steps.{after_entry, after_last}
use Rattle.parts.proofs.part.settled.Goals as goal

pub returns-then-yes : goal.returns-then-yes
returns-then-yes c = let a = c.args in after_void_yes a.phase a.yes c.if-phase-lt1.true c.if-yes.true

pub returns-then-phase-lt1 : goal.returns-then-phase-lt1
returns-then-phase-lt1 c = let a = c.args in after_void_no a.phase a.yes c.if-phase-lt1.true c.if-yes.false

pub returns-then-yes-2 : goal.returns-then-yes-2
returns-then-yes-2 c =
    let a = c.args in
    after_tight_yes a.phase a.yes c.if-phase-lt1.false c.if-phase-lt2.true c.if-yes-2.true

pub returns-then-phase-lt2 : goal.returns-then-phase-lt2
returns-then-phase-lt2 c =
    let a = c.args in
    after_tight_no a.phase a.yes c.if-phase-lt1.false c.if-phase-lt2.true c.if-yes-2.false

pub returns-then-phase-lt26 : goal.returns-then-phase-lt26
returns-then-phase-lt26 c =
    let a = c.args in
    after_entry a.phase a.yes c.if-phase-lt1.false c.if-phase-lt2.false c.if-phase-lt26.true

pub returns : goal.returns
returns c =
    let a = c.args in
    after_last a.phase a.yes c.if-phase-lt1.false c.if-phase-lt2.false c.if-phase-lt26.false
