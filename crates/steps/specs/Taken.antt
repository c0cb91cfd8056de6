-- A zone that is taken up, in cells: what a step makes of it before its tests.
use Rattle.std.specs.Prelude.{◌≡◌, refl, Bool, true, false, cond, List, ℕ, ◌<◌, length, get_or, set}
use Rattle.std.proofs.Common.{◌∙◌, arith}
use Rattle.std.proofs.Math.Path.{ap}
use Rattle.std.proofs.Math.ListN.{length-set}
use Rattle.std.proofs.Math.Seq.{get_or-set_same, get_or-set_other}
use Rattle.cells.specs.Cells.{Cell, no_cell, with_matrix, on_matrix, zone_of}
use Rattle.delay.specs.Delayed.{delayed_b, resets_b}
use Rattle.expr.specs.Records.{zero_expr}
use Rattle.expr.specs.declared.bound.Bound.{Bound}
use Rattle.integer.specs.Apart.{apart}
use Rattle.parts.specs.declared.part.Halt.TheVariants as stops
use Rattle.running.specs.Tasks.{part_with}
use Rattle.running.specs.declared.task.Task.{Task}
use Rattle.split.specs.Trees.{start_c}
use Rattle.steps.specs.Steps.{changed_c, kept_c, asks_c, part_c}
use Rattle.steps.specs.declared.step.Step.{Step}
use Rattle.steps.specs.declared.step.Step.TheVariants as step
use Rattle.zones.specs.declared.zone.Zone.{Zone}

-- a matrix after a wait or resets
unfoldable pub changed_b : Step → ℕ → List Bound → List Bound
changed_b step.Delay w m = delayed_b w m
changed_b (step.Guard g) w m = m
changed_b (step.Resets bits visit) w m = resets_b w bits m

-- before the first test, or kept
abbrev pub start_task : Task
start_task = record { phase = 0; halt = stops.No; tests = 0; test = zero_expr }

abbrev pub kept_task : Task
kept_task = record { phase = 27; halt = stops.Kept; tests = 0; test = zero_expr }

abbrev pub task_c : Step → Task
task_c st = cond (asks_c st) start_task kept_task

-- the zone at place p at 89, and what the step makes of it at 64
unfoldable pub taken_c : List Cell → ℕ → ℕ → Step → List Cell
taken_c cs p w st =
    on_matrix (set (set cs 89 (get_or cs p no_cell)) 64 (get_or (set cs 89 (get_or cs p no_cell)) p no_cell)) 64 (changed_b st w)

-- ---- what the places have then
module _ (cs : List Cell) (p w : ℕ) (st : Step) (full : length cs ≡ 90) (few : p < 64) where
  abbrev cell : Cell
  cell = get_or cs p no_cell

  abbrev one : List Cell
  one = set cs 89 cell

  abbrev two : List Cell
  two = set one 64 (get_or one p no_cell)

  abbrev top : Cell
  top = with_matrix (get_or two 64 no_cell) (changed_b st w (get_or two 64 no_cell).bounds)

  same : get_or two 64 no_cell ≡ cell
  same =
      get_or-set_same one 64 (get_or one p no_cell) no_cell (omega (arith, full, length-set cs 89 cell))
      ∙ get_or-set_other cs 89 p cell no_cell (λ e. omega arith)

  pub taken_old : get_or (taken_c cs p w st) 89 no_cell ≡ cell
  unfolding taken_c
  taken_old =
      get_or-set_other two 64 89 top no_cell (λ e. omega arith)
      ∙ get_or-set_other one 64 89 (get_or one p no_cell) no_cell (λ e. omega arith)
      ∙ get_or-set_same cs 89 cell no_cell (omega (arith, full))

  pub taken_other : (q : ℕ) → (q ≡ 64 → ⊥) → (q ≡ 89 → ⊥) → get_or (taken_c cs p w st) q no_cell ≡ get_or cs q no_cell
  unfolding taken_c
  taken_other q a b =
      get_or-set_other two 64 q top no_cell a ∙ get_or-set_other one 64 q (get_or one p no_cell) no_cell a
      ∙ get_or-set_other cs 89 q cell no_cell b

  pub taken_top : get_or (taken_c cs p w st) 64 no_cell ≡ with_matrix cell (changed_b st w cell.bounds)
  unfolding taken_c
  taken_top =
      get_or-set_same two 64 top no_cell
      (omega (arith, full, length-set cs 89 cell, length-set one 64 (get_or one p no_cell)))
      ∙ ap (λ (c : Cell). with_matrix c (changed_b st w c.bounds)) same

-- ---- the part that a step makes of a zone
pub changed_zone : (st : Step) (w n : ℕ) (c : Cell) → zone_of n (with_matrix c (changed_b st w c.bounds)) ≡ changed_c st w (zone_of n c)
unfolding changed_b changed_c
changed_zone step.Delay w n c = refl
changed_zone (step.Guard g) w n c = refl
changed_zone (step.Resets bits visit) w n c = refl

asks_leaves : (st : Step) (w : ℕ) (z : Zone) → asks_c st ≡ true → changed_c st w z ≡ z
unfolding asks_c changed_c
asks_leaves step.Delay w z h = apart cc
asks_leaves (step.Guard g) w z h = refl
asks_leaves (step.Resets bits visit) w z h = apart cc

pub taken_part : (st : Step) (w n : ℕ) (c : Cell)
    → part_with (task_c st) (zone_of n (with_matrix c (changed_b st w c.bounds))) ≡ part_c st w (zone_of n c)
unfolding part_c
taken_part st w n c = ap (part_with (task_c st)) (changed_zone st w n c) ∙ by (asks_c st) refl
  where
    by : (t : Bool) → asks_c st ≡ t
        → part_with (cond t start_task kept_task) (changed_c st w (zone_of n c)) ≡ cond t (start_c (zone_of n c)) (kept_c (changed_c st w
        (zone_of n c)))
    by true e = ap start_c (asks_leaves st w (zone_of n c) e)
    by false e = refl
