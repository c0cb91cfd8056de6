-- The branches are the cases of `reset_entry`.
use Rattle.weight_matrix.specs.Tables.{reset_entry}
use mathlib.Core.Path.{refl}
use Rattle.weight_delay.proofs.reset_entry.Goals as goal

pub returns-then-past : goal.returns-then-past
unfolding reset_entry
returns-then-past c = rw c.if-past.true refl

pub returns-then-same : goal.returns-then-same
unfolding reset_entry
returns-then-same c = rw (c.if-past.false, c.if-same.true) refl

pub returns : goal.returns
unfolding reset_entry
returns c = rw (c.if-past.false, c.if-same.false) refl
