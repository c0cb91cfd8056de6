-- The arms are the cases of `noted_by`.
use mathlib.Core.Path.{ap, ◌∙◌}
use Rattle.zones.specs.Hinted.{learned_c}
use Rattle.zones.specs.Settled.{opposite_c}
use Rattle.zones.proofs.hint.answered.Goals as goal

pub returns-in-No : goal.returns-in-No
returns-in-No c = rw c.in-No.is c.learned.ensures

pub returns-in-Yes : goal.returns-in-Yes
unfolding opposite_c
returns-in-Yes c = rw c.in-Yes.is (c.learned-in-Yes.ensures ∙ ap (learned_c _) c.opposite.ensures)
