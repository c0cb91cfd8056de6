-- The opposite is one more inequality, and the answer is no.
use mathlib.Core.Path.{◌∙◌, ap}
use Rattle.parts.specs.Parts.{no_c, answered_c}
use Rattle.parts.specs.declared.part.Halt.TheVariants as stops
use Rattle.zones.specs.declared.zone.Zone.{Zone}
use mathlib.Core.Bool.{false}
use Rattle.parts.proofs.part.no_part.Goals as goal

pub returns : goal.returns
unfolding no_c
returns c =
    let a = c.args in
    let p = a.p in
    c.answered.ensures
    ∙ ap (λ (z : Zone). answered_c a.r (record { phase = p.phase; halt = stops.No; tests = p.tests; test = p.test; zone = z }) false)
    c.with_opposite-more.ensures
