use mathlib.Core.Path.{◌≡◌}
use Rattle.cursor.specs.Cursor.{iterate}
use Rattle.guards.specs.Guards.{zero_step}
use Rattle.guard_fields.proofs.zeros_at.Given as goal

-- `zeros_at` meets its contract. The invariant: after i steps reading stands where `iterate` says. Assumes nothing.
abbrev pub invariant-loop-i : goal.invariant-loop-i
invariant-loop-i l = l.after ≡ iterate (zero_step l.file l.end l.most l.parameters) l.initial.after l.i
