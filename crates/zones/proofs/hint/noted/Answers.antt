-- The arms are the cases of `noted_c`.
use mathlib.Core.Path.{refl}
use Rattle.zones.specs.Hinted.{noted_c}
use Rattle.zones.proofs.hint.noted.Goals as goal

pub returns-in-Yes : goal.returns-in-Yes
unfolding noted_c
returns-in-Yes c = rw c.in-Yes.is refl

pub returns-in-No : goal.returns-in-No
unfolding noted_c
returns-in-No c = rw c.in-No.is refl

pub returns-in-Ask : goal.returns-in-Ask
unfolding noted_c
returns-in-Ask c = rw c.in-Ask.is c.answered.ensures
