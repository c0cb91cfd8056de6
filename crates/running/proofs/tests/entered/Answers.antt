-- Where it enters, it is put in.
use mathlib.Core.Path.{refl, sym, ◌∙◌}
use Rattle.running.proofs.tests.entered.Goals as goal

pub returns-then-enters : goal.returns-then-enters
returns-then-enters c =
    rw (sym c.enters.ensures ∙ c.if-enters.true)
    c.put_bound.ensures

pub returns-else-enters : goal.returns-else-enters
returns-else-enters c =
    rw (sym c.enters.ensures ∙ c.if-enters.false) refl
