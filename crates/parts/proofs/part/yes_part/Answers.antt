-- The test is one more inequality, and the answer is yes.
use mathlib.Core.Path.{◌∙◌, ap}
use Rattle.parts.specs.Parts.{yes_c, answered_c}
use Rattle.parts.specs.declared.part.Halt.TheVariants as stops
use Rattle.zones.specs.declared.zone.Zone.{Zone}
use mathlib.Core.Bool.{true}
use Rattle.parts.proofs.part.yes_part.Goals as goal

pub returns : goal.returns
unfolding yes_c
returns c =
    let a = c.args in
    let p = a.p in
    c.answered.ensures
    ∙ ap (λ (z : Zone). answered_c a.r (record { phase = p.phase; halt = stops.No; tests = p.tests; test = p.test; zone = z }) true)
    c.with_inequality-more.ensures
