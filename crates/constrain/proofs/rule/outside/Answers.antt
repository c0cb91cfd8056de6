-- The branches are the cases of `outsideC`.
use Rattle.constrain.proofs.Steps.{outside_not, outside_row, outside_column}
use Rattle.constrain.proofs.rule.outside.Goals as goal

pub returns-then-phase-lt2 : goal.returns-then-phase-lt2
returns-then-phase-lt2 c = let a = c.args in outside_not a.clocks a.phase c.if-phase-lt2.true

pub returns-then-clocks-entry : goal.returns-then-clocks-entry
returns-then-clocks-entry c = let a = c.args in outside_row a.clocks a.phase c.if-phase-lt2.false c.if-clocks-entry.true

pub returns : goal.returns
returns c = let a = c.args in outside_column a.clocks a.phase c.if-phase-lt2.false c.if-clocks-entry.false
