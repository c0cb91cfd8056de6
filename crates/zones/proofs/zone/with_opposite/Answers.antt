-- The opposite is one more inequality.
use mathlib.Core.Path.{◌∙◌, ap}
use Rattle.zones.specs.Settled.{opposite_c}
use Rattle.zones.specs.Zone.{more_c}
use Rattle.zones.proofs.zone.with_opposite.Goals as goal

pub returns : goal.returns
unfolding opposite_c
returns c = c.with_inequality.ensures ∙ ap (more_c _) c.opposite.ensures
