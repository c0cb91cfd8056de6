-- The loop's invariant: the part on its way comes to what the first one comes to, and the list has its zone's inequalities.
use mathlib.Core.Path.{◌≡◌, sym, ◌∙◌}
use native.Mathlib.Omega.{arith}
use lib.ListN.{length}
use Rattle.split.specs.Runs.{going_starts, going_ends}
use Rattle.split.specs.Turns.{part_of, way_starts, way_skips, skip_less, few_at, run_turn, run_less}
use Rattle.split.specs.Turns.{knowing_starts, knowing_fits}
use borrow.Author.Rules.{rules}
use Rattle.split.proofs.tests.run.Goals as goal

pub returns-then-not-goes_on : goal.returns-then-not-goes_on
returns-then-not-goes_on c =
    let a = c.args in
    λ b h. going_ends b a.r a.p a.p (going_starts b a.r a.p c.requires.0) (sym c.goes_on.ensures ∙ c.if-not-goes_on.true)

pub loop-halt-init : goal.loop-halt-init
loop-halt-init c =
    let a = c.args in
    let long : length a.r.old ≡ 25 = search rules in
    let room : length c.flat_of-list.result.numbers ≡ 125 = search rules in
    way_starts a.r _ _ a.p _ c.requires.0 long c.flat_of-list.ensures.counted room c.flat_of-list.ensures.count_value

pub loop-halt-smaller-then-outside : goal.loop-halt-smaller-then-outside
loop-halt-smaller-then-outside c =
    let loop = c.loop-halt in
    let a = c.args in
    skip_less a.r a.p.zone _ _ a.p loop.flat
    (part_of a.p.zone loop.new loop.test loop.tests loop.phase loop.halt) loop.invariant (sym c.goes_on-in-loop-halt.ensures ∙ c.loop-halt-test.true)
    (sym c.outside.ensures ∙ c.if-outside.true) c.after-next.result c.after-next.ensures

pub loop-halt-preserved-then-outside : goal.loop-halt-preserved-then-outside
loop-halt-preserved-then-outside c =
    let loop = c.loop-halt in
    let a = c.args in
    way_skips a.r a.p.zone _ _ a.p loop.flat
    (part_of a.p.zone loop.new loop.test loop.tests loop.phase loop.halt) loop.invariant (sym c.goes_on-in-loop-halt.ensures ∙ c.loop-halt-test.true)
    (sym c.outside.ensures ∙ c.if-outside.true) c.after-next.result c.after-next.ensures

pub offset_bounds-old-f : goal.offset_bounds-old-f
offset_bounds-old-f c = omega (arith, (few_at _ _ _ _ c.places-at.ensures).first)

pub bounds-old-f : goal.bounds-old-f
bounds-old-f c = omega (arith, (few_at _ _ _ _ c.places-at.ensures).first)

pub offset_bounds-old-l : goal.offset_bounds-old-l
offset_bounds-old-l c = omega (arith, (few_at _ _ _ _ c.places-at.ensures).last)

pub bounds-old-l : goal.bounds-old-l
bounds-old-l c = omega (arith, (few_at _ _ _ _ c.places-at.ensures).last)

pub offset_bounds-old-w : goal.offset_bounds-old-w
offset_bounds-old-w c = omega (arith, (few_at _ _ _ _ c.places-at.ensures).was)

pub bounds-old-w : goal.bounds-old-w
bounds-old-w c = omega (arith, (few_at _ _ _ _ c.places-at.ensures).was)

pub settled-verdict-requires : goal.settled-verdict-requires
settled-verdict-requires c =
    let loop = c.loop-halt in
    let a = c.args in
    knowing_fits a.r a.p.zone a.hint a.hint _ a.p loop.flat
    (part_of a.p.zone loop.new loop.test loop.tests loop.phase loop.halt) loop.invariant
    (knowing_starts a.p.zone a.hint c.requires.1)

pub offset_bounds-new-x : goal.offset_bounds-new-x
offset_bounds-new-x c =
    omega (arith, (few_at _ _ _ _ c.places-at.ensures).into)

pub bounds-new-x : goal.bounds-new-x
bounds-new-x c =
    omega (arith, (few_at _ _ _ _ c.places-at.ensures).into)

pub offset_bounds-new-x-else-outside : goal.offset_bounds-new-x-else-outside
offset_bounds-new-x-else-outside c =
    omega
    (arith, (few_at _ _ _ _ c.places-at.ensures).into)

pub bounds-new-x-else-outside : goal.bounds-new-x-else-outside
bounds-new-x-else-outside c =
    omega (arith, (few_at _ _ _ _ c.places-at.ensures).into)

pub loop-halt-smaller : goal.loop-halt-smaller
loop-halt-smaller c =
    let loop = c.loop-halt in
    let a = c.args in
    let q = part_of a.p.zone loop.new loop.test loop.tests loop.phase loop.halt in
    run_less a.r a.p.zone _ _ a.p loop.flat
    q loop.invariant (sym c.goes_on-in-loop-halt.ensures ∙ c.loop-halt-test.true)
    c.places-at.result c.places-at.ensures c.framed_of-old.result.entries c.framed_of-old.ensures
    c.via-via.result c.via-via.ensures c.tighter-t.result c.tighter-t.ensures
    c.settled-verdict.result.kind c.settled-verdict.ensures.kind_value c.turned-next.result c.turned-next.ensures

pub loop-halt-preserved : goal.loop-halt-preserved
loop-halt-preserved c =
    let loop = c.loop-halt in
    let a = c.args in
    let q = part_of a.p.zone loop.new loop.test loop.tests loop.phase loop.halt in
    run_turn a.r a.p.zone _ _ a.p loop.flat
    q loop.invariant (sym c.goes_on-in-loop-halt.ensures ∙ c.loop-halt-test.true)
    c.places-at.result c.places-at.ensures c.framed_of-old.result.entries c.framed_of-old.ensures
    c.via-via.result c.via-via.ensures c.tighter-t.result c.tighter-t.ensures
    c.settled-verdict.result.kind c.settled-verdict.ensures.kind_value c.turned-next.result c.turned-next.ensures _
    c.settled-verdict.ensures.leaves

pub returns : goal.returns
returns c =
    let a = c.args in
    let loop = c.loop-halt in
    λ b h. going_ends b a.r a.p (part_of a.p.zone loop.new loop.test loop.tests loop.phase loop.halt)
    (loop.invariant.going b h.narrows) (sym c.goes_on-in-loop-halt.ensures ∙ c.loop-halt-test.false)
