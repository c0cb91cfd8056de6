use mathlib.Core.Path.{◌≡◌}
use Rattle.cursor.specs.Cursor.{iterate}
use Rattle.parameters.specs.Parameters.{range_step}
use Rattle.parameters.proofs.parameters_read.Given as goal

-- `parameters::parameters_read` meets its contract. The invariant: after i steps the ranges are what `iterate` gives. Assumes nothing.
abbrev pub invariant-loop-i : goal.invariant-loop-i
invariant-loop-i l = l.all ≡ iterate (range_step l.file l.end) l.initial.all l.i
