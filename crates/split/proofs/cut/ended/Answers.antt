-- The arms are the cases of `ended_c`.
use mathlib.Core.Path.{refl}
use Rattle.split.specs.Trees.{ended_c}
use Rattle.split.proofs.cut.ended.Goals as goal

pub returns-in-No : goal.returns-in-No
unfolding ended_c
returns-in-No c = rw c.in-No.is refl

pub returns-in-Cut : goal.returns-in-Cut
unfolding ended_c
returns-in-Cut c = rw c.in-Cut.is refl

pub returns-in-Kept : goal.returns-in-Kept
unfolding ended_c
returns-in-Kept c = rw c.in-Kept.is c.listed.ensures

pub returns-in-Split : goal.returns-in-Split
unfolding ended_c
returns-in-Split c = rw c.in-Split.is refl

pub returns-in-Full : goal.returns-in-Full
unfolding ended_c
returns-in-Full c = rw c.in-Full.is c.refused.ensures

pub returns-in-Other : goal.returns-in-Other
unfolding ended_c
returns-in-Other c = rw c.in-Other.is c.stopped.ensures
