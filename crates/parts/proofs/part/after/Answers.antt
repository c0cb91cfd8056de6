-- The arms are the cases of `after_c`.
use mathlib.Core.Path.{refl}
use Rattle.parts.specs.Parts.{after_c}
use Rattle.parts.proofs.part.after.Goals as goal

pub returns-in-No : goal.returns-in-No
unfolding after_c
returns-in-No c = rw c.in-No.is c.settled.ensures

pub returns-in-Yes : goal.returns-in-Yes
unfolding after_c
returns-in-Yes c = rw c.in-Yes.is c.settled-in-Yes.ensures

pub returns-in-Split : goal.returns-in-Split
unfolding after_c
returns-in-Split c = rw c.in-Split.is refl

pub returns-in-Full : goal.returns-in-Full
unfolding after_c
returns-in-Full c = rw c.in-Full.is refl

pub returns-in-Other : goal.returns-in-Other
unfolding after_c
returns-in-Other c = rw c.in-Other.is c.stopped.ensures
