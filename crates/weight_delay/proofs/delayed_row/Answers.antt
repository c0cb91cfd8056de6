-- The branches are the cases of `delayed_row`.
use Rattle.weight_matrix.specs.Tables.{delayed_row}
use mathlib.Core.Path.{refl}
use Rattle.weight_delay.proofs.delayed_row.Goals as goal

pub returns-then-past : goal.returns-then-past
unfolding delayed_row
returns-then-past c = rw c.if-past.true refl

pub returns : goal.returns
unfolding delayed_row
returns c = rw c.if-past.false refl
