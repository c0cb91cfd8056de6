-- The loop's invariant: the part on its way comes to what the first one comes to, the list has its zone's inequalities, what is known of
-- the zone can be trusted, and no place but its own has changed.
use mathlib.Core.Path.{◌≡◌, sym, subst, ◌∙◌}
use native.Mathlib.Omega.{arith}
use lib.ListN.{length, get_or}
use lib.Seq.{set-get_or}
use Rattle.cells.specs.Cells.{Cell, no_cell, cells_in, zone_of}
use Rattle.cells.specs.CellLaws.{matrix_long}
use Rattle.parts.specs.Parts.{enters_c}
use Rattle.split.specs.Runs.{going_starts, going_ends}
use Rattle.split.specs.Trees.{Ran}
use Rattle.split.specs.Turns.{part_of, way_starts, way_skips, skip_less}
use Rattle.split.specs.Turns.{knowing_starts, knowing_hinted, knowing_fits, knowing_settled, knowing_learned}
use Rattle.running.specs.Tasks.{part_at, rule_at}
use Rattle.running.specs.Turning.{cell_turn, cell_less, quick_turn, quick_less, asking_few, rule_old}
use Rattle.running.specs.Working.{matrix_at, working_starts, working_here, entered_matrix, working_entered}
use borrow.Author.Rules.{rules}
use Rattle.running.proofs.tests.run.Goals as goal

pub returns-then-not-goes_on : goal.returns-then-not-goes_on
returns-then-not-goes_on c =
    let a = c.args in
    let cs = cells_in a.cells.now a.marks.now in
    let part = part_at cs a.p a.n a.task in record {
      ran = λ b h. going_ends b (rule_at cs a.old a.g) part part (going_starts b (rule_at cs a.old a.g) part c.requires.live.0)
          (sym c.goes_on.ensures ∙ c.if-not-goes_on.true);
      same = sym (set-get_or cs a.p no_cell);
      known = λ b h. h;
    }

pub loop-halt-init : goal.loop-halt-init
loop-halt-init c =
    let a = c.args in
    let cs = cells_in a.cells.now a.marks.now in
    let listed = c.rows_at-list in
    let room : length listed.result.numbers ≡ 125 = search rules in (
      way_starts (rule_at cs a.old a.g) _ a.n (part_at cs a.p a.n a.task) _ c.requires.live.0
          (matrix_long a.cells.now a.marks.now a.old c.requires.cells_len.1.1.0.1) (omega (arith, c.requires.cells_len.1.1.1.1))
          room listed.ensures,
      (
        knowing_starts (zone_of a.n (get_or cs a.p no_cell)) a.hint c.requires.live.1,
        working_starts a.cells.now a.marks.now a.p c.requires.cells_len.0 c.requires.cells_len.1.0 c.requires.cells_len.1.1.0.0,
      ),
    )

pub loop-halt-smaller-then-outside : goal.loop-halt-smaller-then-outside
loop-halt-smaller-then-outside c =
    let loop = c.loop-halt in
    let a = c.args in
    let cs = cells_in a.cells.now a.marks.now in
    let r = rule_at cs a.old a.g in
    let z = zone_of a.n (get_or cs a.p no_cell) in
    let q = part_of z (matrix_at a.p loop.cells loop.marks) loop.test loop.tests loop.phase loop.halt in
    skip_less r z _ _ _ loop.flat q loop.invariant.0 (sym c.goes_on-in-loop-halt.ensures ∙ c.loop-halt-test.true)
    (sym c.outside.ensures ∙ c.if-outside.true) c.after-next.result c.after-next.ensures

pub loop-halt-preserved-then-outside : goal.loop-halt-preserved-then-outside
loop-halt-preserved-then-outside c =
    let loop = c.loop-halt in
    let a = c.args in
    let cs = cells_in a.cells.now a.marks.now in
    let r = rule_at cs a.old a.g in
    let z = zone_of a.n (get_or cs a.p no_cell) in
    let q = part_of z (matrix_at a.p loop.cells loop.marks) loop.test loop.tests loop.phase loop.halt in (
      way_skips r z _ _ _ loop.flat q loop.invariant.0 (sym c.goes_on-in-loop-halt.ensures ∙ c.loop-halt-test.true)
          (sym c.outside.ensures ∙ c.if-outside.true) c.after-next.result c.after-next.ensures,
      loop.invariant.1,
    )

pub asked_at-asked-requires : goal.asked_at-asked-requires
asked_at-asked-requires c =
    (c.loop-halt.invariant.1.1.marks_long, c.requires.cells_len.1.1.0.1)

pub settled-verdict-requires : goal.settled-verdict-requires
settled-verdict-requires c =
    let loop = c.loop-halt in
    let a = c.args in
    let cs = cells_in a.cells.now a.marks.now in
    let r = rule_at cs a.old a.g in
    let z = zone_of a.n (get_or cs a.p no_cell) in
    let q = part_of z (matrix_at a.p loop.cells loop.marks) loop.test loop.tests loop.phase loop.halt in
    knowing_fits r z a.hint loop.known _ _ loop.flat q loop.invariant.0 loop.invariant.1.0

pub entered-requires : goal.entered-requires
entered-requires c =
    let w = c.loop-halt.invariant.1.1 in (
      w.cells_long,
      (
        w.marks_long,
        (
          w.there,
          asking_few _ _ _ c.asked_at-asked.ensures,
        ),
      ),
    )

pub loop-halt-smaller-then-at_once : goal.loop-halt-smaller-then-at_once
loop-halt-smaller-then-at_once c =
    let loop = c.loop-halt in
    let a = c.args in
    let cs = cells_in a.cells.now a.marks.now in
    let r = rule_at cs a.old a.g in
    let z = zone_of a.n (get_or cs a.p no_cell) in
    let q = part_of z (matrix_at a.p loop.cells loop.marks) loop.test loop.tests loop.phase loop.halt in
    let w = loop.invariant.1.1 in
    let asked = c.asked_at-asked in
    let settled = c.settled-verdict in
    let told = knowing_settled r z a.hint loop.known _ _ loop.flat q loop.invariant.0 loop.invariant.1.0 asked.result.test
    settled.result.kind settled.ensures.kind_value in
    let put = c.entered.ensures in
    let hl = c.entered.auto.cells in
    let hm = c.entered.auto.marks in
    quick_less r z _ _ _ loop.flat q loop.invariant.0 (sym c.goes_on-in-loop-halt.ensures ∙ c.loop-halt-test.true) asked.result
    (asked.ensures ∙ rule_old cs a.p loop.cells loop.marks w a.old a.g loop.phase c.requires.cells_len.1.1.1.0)
    settled.result.kind told (c.at_once.ensures c.if-at_once.true) _ c.counted-tests.ensures
    _ c.after-next-then-at_once.ensures _
    (entered_matrix cs a.p loop.cells loop.marks w _ _ (enters_c loop.phase settled.result.kind) asked.result.into
    asked.result.via put hl hm)

pub loop-halt-preserved-then-at_once : goal.loop-halt-preserved-then-at_once
loop-halt-preserved-then-at_once c =
    let loop = c.loop-halt in
    let a = c.args in
    let cs = cells_in a.cells.now a.marks.now in
    let r = rule_at cs a.old a.g in
    let z = zone_of a.n (get_or cs a.p no_cell) in
    let q = part_of z (matrix_at a.p loop.cells loop.marks) loop.test loop.tests loop.phase loop.halt in
    let w = loop.invariant.1.1 in
    let asked = c.asked_at-asked in
    let settled = c.settled-verdict in
    let told = knowing_settled r z a.hint loop.known _ _ loop.flat q loop.invariant.0 loop.invariant.1.0 asked.result.test
    settled.result.kind settled.ensures.kind_value in
    let put = c.entered.ensures in
    let hl = c.entered.auto.cells in
    let hm = c.entered.auto.marks in (
      quick_turn r z _ _ _ loop.flat q loop.invariant.0 (sym c.goes_on-in-loop-halt.ensures ∙ c.loop-halt-test.true) asked.result
          (asked.ensures ∙ rule_old cs a.p loop.cells loop.marks w a.old a.g loop.phase c.requires.cells_len.1.1.1.0)
          settled.result.kind told (c.at_once.ensures c.if-at_once.true) _ c.counted-tests.ensures _ c.after-next-then-at_once.ensures _
          (entered_matrix cs a.p loop.cells loop.marks w _ _ (enters_c loop.phase settled.result.kind) asked.result.into
          asked.result.via put hl hm) _ settled.ensures.leaves,
      (
        loop.invariant.1.0,
        working_entered cs a.p loop.cells loop.marks w _ _ (enters_c loop.phase settled.result.kind) asked.result.into
            asked.result.via put hl hm,
      ),
    )

pub loop-halt-smaller : goal.loop-halt-smaller
loop-halt-smaller c =
    let loop = c.loop-halt in
    let a = c.args in
    let cs = cells_in a.cells.now a.marks.now in
    let r = rule_at cs a.old a.g in
    let z = zone_of a.n (get_or cs a.p no_cell) in
    let q = part_of z (matrix_at a.p loop.cells loop.marks) loop.test loop.tests loop.phase loop.halt in
    let w = loop.invariant.1.1 in
    let asked = c.asked_at-asked in
    let settled = c.settled-verdict in
    let told = knowing_settled r z a.hint loop.known _ _ loop.flat q loop.invariant.0 loop.invariant.1.0 asked.result.test
    settled.result.kind settled.ensures.kind_value in
    let put = c.entered.ensures in
    let hl = c.entered.auto.cells in
    let hm = c.entered.auto.marks in
    let told_more = knowing_learned r z a.hint loop.known _ _ loop.flat q loop.invariant.0 loop.invariant.1.0 asked.result.test
    settled.result.kind settled.ensures.kind_value settled.result.witness in
    cell_less r z _ _ _ loop.flat q loop.invariant.0 (sym c.goes_on-in-loop-halt.ensures ∙ c.loop-halt-test.true) asked.result
    (asked.ensures ∙ rule_old cs a.p loop.cells loop.marks w a.old a.g loop.phase c.requires.cells_len.1.1.1.0)
    settled.result.kind told _ c.turned-next.result c.turned-next.ensures _
    (entered_matrix cs a.p loop.cells loop.marks w _ _ (enters_c loop.phase settled.result.kind) asked.result.into
    asked.result.via put hl hm)

pub loop-halt-preserved : goal.loop-halt-preserved
loop-halt-preserved c =
    let loop = c.loop-halt in
    let a = c.args in
    let cs = cells_in a.cells.now a.marks.now in
    let r = rule_at cs a.old a.g in
    let z = zone_of a.n (get_or cs a.p no_cell) in
    let q = part_of z (matrix_at a.p loop.cells loop.marks) loop.test loop.tests loop.phase loop.halt in
    let w = loop.invariant.1.1 in
    let asked = c.asked_at-asked in
    let settled = c.settled-verdict in
    let told = knowing_settled r z a.hint loop.known _ _ loop.flat q loop.invariant.0 loop.invariant.1.0 asked.result.test
    settled.result.kind settled.ensures.kind_value in
    let put = c.entered.ensures in
    let hl = c.entered.auto.cells in
    let hm = c.entered.auto.marks in
    let told_more = knowing_learned r z a.hint loop.known _ _ loop.flat q loop.invariant.0 loop.invariant.1.0 asked.result.test
    settled.result.kind settled.ensures.kind_value settled.result.witness in (
      cell_turn r z _ _ _ loop.flat q loop.invariant.0 (sym c.goes_on-in-loop-halt.ensures ∙ c.loop-halt-test.true) asked.result
          (asked.ensures ∙ rule_old cs a.p loop.cells loop.marks w a.old a.g loop.phase c.requires.cells_len.1.1.1.0)
          settled.result.kind told _ c.turned-next.result c.turned-next.ensures _
          (entered_matrix cs a.p loop.cells loop.marks w _ _ (enters_c loop.phase settled.result.kind) asked.result.into
          asked.result.via put hl hm) _ settled.ensures.leaves,
      (
        told_more settled.result.searched _ c.learned-more.ensures,
        working_entered cs a.p loop.cells loop.marks w _ _ (enters_c loop.phase settled.result.kind) asked.result.into
            asked.result.via put hl hm,
      ),
    )

pub shape_of-cells : goal.shape_of-cells
shape_of-cells c =
    c.loop-halt.invariant.1.1.cells_long ∙ sym c.requires.cells_len.0

pub shape_of-marks : goal.shape_of-marks
shape_of-marks c =
    c.loop-halt.invariant.1.1.marks_long ∙ sym c.requires.cells_len.1.0

pub returns : goal.returns
returns c =
    let loop = c.loop-halt in
    let a = c.args in
    let cs = cells_in a.cells.now a.marks.now in
    let r = rule_at cs a.old a.g in
    let z = zone_of a.n (get_or cs a.p no_cell) in
    let q = part_of z (matrix_at a.p loop.cells loop.marks) loop.test loop.tests loop.phase loop.halt in
    let w = loop.invariant.1.1 in record {
      ran = λ b h.
          subst (λ (x : Cell). Ran b r (part_at cs a.p a.n a.task) (record {
            phase = loop.phase;
            halt = loop.halt;
            tests = loop.tests;
            test = loop.test;
            zone = zone_of a.n x;
          })) (sym (working_here cs a.p loop.cells loop.marks w))
          (going_ends b r (part_at cs a.p a.n a.task) q (loop.invariant.0.going b h.narrows) (sym c.goes_on-in-loop-halt.ensures ∙ c.loop-halt-test.false));
      same = w.rest;
      known = λ b h. knowing_hinted b z a.hint loop.known loop.invariant.1.0 h;
    }
