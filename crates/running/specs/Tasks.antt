-- Parts and rules whose numbers stand in cells.
use Rattle.std.specs.Prelude.{List, ℕ, get_or}
use Rattle.cells.specs.Cells.{Cell, no_cell, zone_of}
use Rattle.constrain.specs.declared.rule.Rule.{Rule}
use Rattle.guards.specs.declared.Guard.{Guard}
use Rattle.parts.specs.Parts.{after_c}
use Rattle.parts.specs.declared.part.Part.{Part}
use Rattle.running.specs.declared.task.Guarding.{Guarding}
use Rattle.running.specs.declared.task.Task.{Task}
use Rattle.zones.specs.declared.told.Told.{Told}
use Rattle.zones.specs.declared.zone.Zone.{Zone}

-- the part of a task and a zone
abbrev pub part_with : Task → Zone → Part
part_with t z = record { phase = t.phase; halt = t.halt; tests = t.tests; test = t.test; zone = z }

-- the part at place p, n inequalities of which count
abbrev pub part_at : List Cell → ℕ → ℕ → Task → Part
part_at cs p n t = part_with t (zone_of n (get_or cs p no_cell))

-- the rule of a guard that finds the matrix at place p
abbrev pub rule_at : List Cell → ℕ → Guarding → Rule
rule_at cs p g =
    record { clocks = g.clocks; left = g.left; right = g.right; bound = g.bound; old = (get_or cs p no_cell).bounds }

abbrev pub guarding_c : ℕ → Guard → Guarding
guarding_c w g = record { clocks = w; left = g.left; right = g.right; bound = g.bound }

-- a task after the answer to its test
unfoldable pub answered_t : Task → Told → Task
answered_t t kind =
    record { phase = (after_c t.phase kind).phase; halt = (after_c t.phase kind).halt; tests = t.tests; test = t.test }
