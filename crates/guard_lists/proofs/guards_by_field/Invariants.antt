use mathlib.Core.Path.{◌≡◌}
use Rattle.cursor.specs.Cursor.{iterate}
use Rattle.guards.specs.Guards.{guard_step}
use Rattle.guard_lists.proofs.guards_by_field.Given as goal

-- `guards_by_field` meets its contract. The invariant: after i steps the list is what `iterate` gives. Assumes nothing.
abbrev pub invariant-loop-i : goal.invariant-loop-i
invariant-loop-i l = l.list ≡ iterate (guard_step l.file l.end l.most l.parameters l.clocks) l.initial.list l.i
