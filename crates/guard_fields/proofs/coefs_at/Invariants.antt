use mathlib.Core.Path.{◌≡◌}
use Rattle.cursor.specs.Cursor.{iterate}
use Rattle.guards.specs.Guards.{coef_step}
use Rattle.guard_fields.proofs.coefs_at.Given as goal

-- `coefs_at` meets its contract. The invariant: after i steps the coefficients are what `iterate` gives. Assumes nothing.
abbrev pub invariant-loop-i : goal.invariant-loop-i
invariant-loop-i l = l.all ≡ iterate (coef_step l.file l.end l.parameters) l.initial.all l.i
