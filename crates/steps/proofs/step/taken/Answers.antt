-- Two copies, and the change of one.
use mathlib.Core.Path.{ap, ◌∙◌}
use mathlib.Core.List.{List}
use lib.ListN.{get_or, set}
use Rattle.cells.specs.Cells.{Cell, no_cell, cells_in, on_matrix}
use Rattle.steps.specs.Taken.{changed_b, taken_c}
use Rattle.steps.proofs.step.taken.Goals as goal

pub returns : goal.returns
unfolding taken_c
returns c =
    let a = c.args in
    let cs = cells_in a.cells.now a.marks.now in record {
      value = c.task_of.ensures;
      placed = c.changed.ensures
          ∙ ap (λ (x : List Cell). on_matrix x 64 (changed_b a.step a.clocks))
          (c.copy-2.ensures ∙ ap (λ (x : List Cell).
          set x 64 (get_or x a.p no_cell)) c.copy.ensures);
    }
