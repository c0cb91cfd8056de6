-- The parts of the zone, after no zones.
use Rattle.split.specs.Guarded.{one_c}
use mathlib.Core.Path.{refl, ◌∙◌}
use Rattle.split.proofs.cut.cut_one.Goals as goal

pub returns : goal.returns
unfolding one_c
returns c = c.cut_zone.ensures ∙ rw (c.rule.ensures, c.none_at.ensures) refl
