-- The branches are the phases.
use Rattle.constrain.proofs.Steps.{places_first, places_second, places_third}
use Rattle.constrain.proofs.rule.places.Goals as goal

pub returns-then-phase-lt1 : goal.returns-then-phase-lt1
returns-then-phase-lt1 c =
    let a = c.args in
    places_first a.left a.right a.phase _ c.if-phase-lt1.true c.place.ensures

pub returns-then-phase-lt2 : goal.returns-then-phase-lt2
returns-then-phase-lt2 c =
    let a = c.args in
    places_second a.left a.right a.phase _ c.if-phase-lt1.false c.if-phase-lt2.true c.place-then-phase-lt2.ensures

pub returns : goal.returns
returns c =
    let placed = c.before.before.before in
    let a = placed.args in
    places_third a.left a.right a.phase _ _ _ _ placed.if-phase-lt2.false placed.place-2.ensures
    c.place-3.ensures c.min.ensures c.min-2.ensures
