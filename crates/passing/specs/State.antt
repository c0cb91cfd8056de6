-- Where a pass over zones stands.
use Rattle.std.specs.Prelude.{cond, ℕ, ◌+◌, ◌-◌, ltb, replicate}
use Rattle.parts.specs.declared.part.Halt.{Halt}
use Rattle.parts.specs.declared.part.Halt.TheVariants as stops
use Rattle.passing.specs.declared.pass.Pass.{Pass}
use Rattle.steps.specs.declared.step.Step.{Step}
use Rattle.steps.specs.declared.step.Step.TheVariants as step
use Rattle.zones.specs.Zone.{blank_zone}
use Rattle.zones.specs.declared.zone.Zones.{Zones}

abbrev pub begun_c : ℕ → ℕ → Pass
begun_c visit n = record { j = 0; n = n; i = 0; kept = 0; depth = 0; visit = visit }

abbrev pub pushed_c : Pass → Pass
pushed_c s = record { j = s.j; n = s.n; i = s.i; kept = s.kept; depth = s.depth + 1; visit = s.visit }

abbrev pub listed_c : Pass → Pass
listed_c s = record { j = s.j; n = s.n; i = s.i; kept = s.kept + 1; depth = s.depth - 1; visit = s.visit }

abbrev pub dropped_c : Pass → Pass
dropped_c s = record { j = s.j; n = s.n; i = s.i; kept = s.kept; depth = s.depth - 1; visit = s.visit }

abbrev pub loaded_c : Pass → Pass
loaded_c s = record { j = s.j; n = s.n; i = s.i + 1; kept = s.kept; depth = 1; visit = s.visit }

abbrev pub passed_c : Pass → Pass
passed_c s = record { j = s.j; n = s.n; i = s.i + 1; kept = s.kept + 1; depth = s.depth; visit = s.visit }

-- the visit after a step: resets make the move
abbrev pub visit_after_c : Step → ℕ → ℕ
visit_after_c step.Delay v = v
visit_after_c (step.Guard g) v = v
visit_after_c (step.Resets bits visit) v = visit

abbrev pub stepped_c : Pass → Step → Pass
stepped_c s st = record { j = s.j + 1; n = s.kept; i = 0; kept = 0; depth = 0; visit = visit_after_c st s.visit }

-- the refusal that a part which stopped so means, or 0
unfoldable pub number_c : Halt → ℕ → ℕ
number_c stops.No kept = 0
number_c stops.Cut kept = 0
number_c stops.Kept kept = cond (ltb kept 32) 0 7
number_c stops.Split kept = 0
number_c stops.Full kept = 8
number_c (stops.Other n) kept = cond (ltb n 4) 0 n

-- no zones, refused
abbrev pub refused_z : ℕ → ℕ → Zones
refused_z n visit = record { refusal = n; visit = visit; count = 0; list = replicate 32 blank_zone }
