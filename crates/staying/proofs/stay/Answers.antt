-- The branches are what a step can be.
use mathlib.Core.Path.{◌≡◌, refl, sym, subst, ◌∙◌}
use mathlib.Core.Bool.{true, true≢false}
use Rattle.cells.specs.Cells.{cells_in}
use Rattle.cells.specs.CellLaws.{cells_long}
use Rattle.steps.specs.Steps.{asks_c, asked_is, asked_step, asked_not}
use Rattle.steps.specs.declared.step.Step.{Step}
use Rattle.staying.specs.Stays.{Stays, stays_not, stays_idle, stays_changed}
use Rattle.staying.proofs.stay.Goals as goal

pub returns-then-idle : goal.returns-then-idle
returns-then-idle c =
    let a = c.args in
    let cs = cells_in a.cells.now a.marks.now in
    record {
      stays = stays_idle cs a.p a.clocks a.step a.n a.hint (λ b h. c.idle.ensures c.if-idle.true a.n b h a.clocks);
      so = λ e. absurd (true≢false (sym c.if-here.true ∙ e));
    }

pub guarded-requires : goal.guarded-requires
guarded-requires c =
    let pre = c.requires.cells_len in
    let g = c.in-Some.guard in
    let asks = subst (λ (x : Step). asks_c x ≡ true) (asked_step c.args.step g c.in-Some.ensures)
    (asked_is c.args.step g c.in-Some.ensures).0 in
    record {
      cells_len = (pre.0, (pre.1.0, (pre.1.1.0, (pre.1.1.1, asks))));
      known = c.requires.known;
    }

pub returns-in-Some : goal.returns-in-Some
returns-in-Some c =
    let a = c.args in
    let cs = cells_in a.cells.now a.marks.now in
    let there = cells_in c.guarded.new.cells c.guarded.new.marks in
    record {
      stays = subst (λ (x : Step). Stays cs there a.p a.clocks x a.n a.hint c.guarded.result)
          (sym (asked_step a.step c.in-Some.guard c.in-Some.ensures)) c.guarded.ensures;
      so = λ e. absurd (true≢false (sym c.if-here.true ∙ e));
    }

pub returns-then-here : goal.returns-then-here
returns-then-here c =
    let a = c.args in
    let cs = cells_in a.cells.now a.marks.now in
    record {
      stays =
          stays_changed cs a.p a.clocks a.step a.n a.hint (cells_long a.cells.now a.marks.now) c.requires.cells_len.1.1.0
          (asked_not a.step c.in_default.ensures) _ c.changed.ensures;
      so = λ e. absurd (true≢false (sym c.if-here.true ∙ e));
    }

pub returns : goal.returns
returns c =
    let a = c.args in
    let cs = cells_in a.cells.now a.marks.now in
    record { stays = stays_not cs a.p a.clocks a.step a.n a.hint; so = λ e. refl }
