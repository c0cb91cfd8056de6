-- The branches are the phases, and the entries past the clocks.
use Rattle.constrain.proofs.Steps.{via_first, via_second, via_row, via_column, via_third}
use Rattle.constrain.proofs.rule.via.Goals as goal

pub returns-then-phase-lt1 : goal.returns-then-phase-lt1
returns-then-phase-lt1 c =
    let a = c.args in
    via_first a.clocks a.bound a.first a.last a.phase c.if-phase-lt1.true _ c.sum.ensures

pub returns-then-phase-lt2 : goal.returns-then-phase-lt2
returns-then-phase-lt2 c =
    let a = c.args in
    via_second a.clocks a.bound a.first a.last a.phase c.if-phase-lt1.false c.if-phase-lt2.true

pub returns-then-clocks-phase : goal.returns-then-clocks-phase
returns-then-clocks-phase c =
    let a = c.args in
    via_row a.clocks a.bound a.first a.last a.phase c.if-phase-lt2.false c.if-clocks-phase.true

pub returns-then-clocks-phase-2 : goal.returns-then-clocks-phase-2
returns-then-clocks-phase-2 c =
    let a = c.args in
    via_column a.clocks a.bound a.first a.last a.phase c.if-phase-lt2.false c.if-clocks-phase.false c.if-clocks-phase-2.true

pub returns : goal.returns
returns c =
    let tested = c.before.before in
    let a = tested.args in
    via_third a.clocks a.bound a.first a.last a.phase tested.if-phase-lt2.false tested.if-clocks-phase.false tested.if-clocks-phase-2.false _ _
    c.sum-2.ensures c.sum-3.ensures
