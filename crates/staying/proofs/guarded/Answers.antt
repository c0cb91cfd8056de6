-- The part is run where it stands; where it does not stay, the copy is put back.
use mathlib.Core.Path.{sym, subst, ◌∙◌}
use native.Mathlib.Omega.{arith}
use Rattle.cells.specs.Cells.{Cell, cells_in, zone_of}
use Rattle.cells.specs.CellLaws.{cells_long}
use Rattle.split.specs.Stack.{start_live}
use Rattle.zones.specs.Hinted.{Trusted}
use Rattle.staying.specs.Stays.{copied_here, stays_left, stays_back}
use Rattle.steps.specs.declared.step.Step.TheVariants as step
use Rattle.staying.proofs.guarded.Goals as goal

pub run-stop-requires : goal.run-stop-requires
run-stop-requires c =
    let a = c.args in
    let cs = cells_in a.cells.now a.marks.now in
    let pre = c.requires.cells_len.1.1 in
    record {
      cells_len = (
        c.copy.auto.cells ∙ c.requires.cells_len.0,
        (
          c.copy.auto.marks ∙ c.requires.cells_len.1.0,
          ((omega (arith, pre.0), omega arith), (λ e. omega (arith, pre.0), pre.1.0)),
        ),
      );
      live = (
        start_live _,
        subst (λ (x : Cell). Trusted (zone_of a.n x) a.hint) (sym (copied_here cs _ a.p pre.0 c.copy.ensures)) c.requires.known,
      );
    }

pub returns-then-is_kept : goal.returns-then-is_kept
returns-then-is_kept c =
    let a = c.args in
    let cs = cells_in a.cells.now a.marks.now in
    let ran = c.run-stop in
    let full = cells_long a.cells.now a.marks.now in
    let pre = c.requires.cells_len.1.1 in
    stays_left cs a.p a.clocks (step.Guard a.guard) a.n a.hint full pre.0 pre.1.1 _ _ c.copy.ensures _ c.of_guard.ensures
    ran.result.task ran.result.hint ran.ensures.ran ran.ensures.same ran.ensures.known (sym c.is_kept.ensures ∙ c.if-is_kept.true)

pub copy-requires-2 : goal.copy-requires-2
copy-requires-2 c =
    let pre = c.requires.cells_len in (
      c.run-stop.auto.cells ∙ c.copy.auto.cells ∙ pre.0,
      (c.run-stop.auto.marks ∙ c.copy.auto.marks ∙ pre.1.0, (omega arith, omega (arith, pre.1.1.0))),
    )

pub returns : goal.returns
returns c =
    let a = c.args in
    let cs = cells_in a.cells.now a.marks.now in
    let ran = c.run-stop in
    let full = cells_long a.cells.now a.marks.now in
    let pre = c.requires.cells_len.1.1 in
    stays_back cs a.p a.clocks (step.Guard a.guard) a.n a.hint full pre.0 pre.1.1 _ _ c.copy.ensures _ c.of_guard.ensures
    ran.result.task ran.result.hint ran.ensures.ran ran.ensures.same ran.ensures.known _ c.copy-2.ensures
