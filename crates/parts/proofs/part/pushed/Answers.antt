-- The entry, then the phase.
use Rattle.parts.proofs.Steps.{pushed_on, pushed_last}
use mathlib.Core.Path.{◌∙◌}
use Rattle.parts.proofs.part.pushed.Goals as goal

pub returns-then-x-lt24 : goal.returns-then-x-lt24
returns-then-x-lt24 c =
    c.at.ensures
    ∙ pushed_on c.args.r c.args.p c.args.x _ _
    c.entered-q.ensures c.if-x-lt24.true

pub returns : goal.returns
returns c =
    c.at-2.ensures
    ∙ pushed_last c.args.r c.args.p c.args.x _ _
    c.entered-q.ensures c.if-x-lt24.false
