-- The arms are the cases of `settled_f`.
use mathlib.Core.Path.{refl}
use Rattle.zones.specs.Settled.{settled_f}
use Rattle.settling.proofs.Cases.{same_rows}
use Rattle.settling.proofs.settled.Goals as goal

pub returns-in-Yes : goal.returns-in-Yes
unfolding settled_f
returns-in-Yes c = record { kind_value = rw c.in-Yes.is refl; leaves = same_rows _ _ }

pub returns-in-No : goal.returns-in-No
unfolding settled_f
returns-in-No c = record { kind_value = rw c.in-No.is refl; leaves = same_rows _ _ }

pub returns-in-Ask : goal.returns-in-Ask
unfolding settled_f
returns-in-Ask c = record { kind_value = rw c.in-Ask.is c.on.ensures.kind_value; leaves = c.on.ensures.leaves }
