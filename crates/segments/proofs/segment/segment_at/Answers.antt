-- The cases by the segment's number.
use mathlib.Core.Path.{refl}
use native.Mathlib.Omega.{arith}
use Rattle.index.specs.SheetIn.{sheet_in}
use Rattle.segments.proofs.Cases.{segment_starts, segment_moves, segment_stays, segment_ends}
use Rattle.segments.specs.Lists.{none_lists, lists_more}
use Rattle.segments.proofs.segment.segment_at.Goals as goal

pub returns-then-k-eq0 : goal.returns-then-k-eq0
unfolding sheet_in
returns-then-k-eq0 c =
    let a = c.args in
    segment_starts (sheet_in a.file.now a.ix) a.k a.here _ c.if-k-eq0.true refl c.start_steps.ensures

pub returns-then-k-n : goal.returns-then-k-n
unfolding sheet_in
returns-then-k-n c =
    let counted = c.before.before.before in
    let a = counted.args in
    segment_moves (sheet_in a.file.now a.ix) a.k a.here _ c.if-k-eq0.false
    (omega (arith, c.if-k-n.true, counted.moves-n.ensures.value)) c.moved.ensures

pub returns-then-k-n-2 : goal.returns-then-k-n-2
unfolding sheet_in
returns-then-k-n-2 c =
    let counted = c.before.before.before.before in
    let a = counted.args in
    segment_stays (sheet_in a.file.now a.ix) a.k a.here _
    (omega (arith, c.if-k-n-2.true, counted.moves-n.ensures.value)) c.stay_steps.ensures

pub returns : goal.returns
unfolding sheet_in
returns c =
    let counted = c.before.before.before in
    let a = counted.args in
    segment_ends (sheet_in a.file.now a.ix) a.k a.here _
    (omega (arith, c.if-k-n.false, counted.moves-n.ensures.value)) (λ e. c.if-k-n-2.false (omega (arith, e, counted.moves-n.ensures.value)))
    (lists_more 0 20 _ _ (omega arith) none_lists)
