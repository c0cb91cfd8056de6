-- The branches are the cases of `limited_entry`.
use Rattle.weight_matrix.specs.Tables.{limited_entry}
use mathlib.Core.Path.{refl}
use Rattle.weight_guard.proofs.Steps.{entry_via, entry_was}
use Rattle.weight_guard.proofs.limited_entry.Goals as goal

pub returns-then-past : goal.returns-then-past
unfolding limited_entry
returns-then-past c = rw c.if-past.true refl

pub returns-then-tighter : goal.returns-then-tighter
returns-then-tighter c = entry_via _ _ _ _ _ _ c.if-past.false c.sum-via.ensures
    c.tighter.ensures c.if-tighter.true

pub returns : goal.returns
returns c = entry_was _ _ _ _ _ _ c.if-past.false c.sum-via.ensures
    c.tighter.ensures c.if-tighter.false
