-- The loop's invariant: what was counted is what the items before i hold.
use mathlib.Core.Path.{◌≡◌, ap, ◌∙◌}
use Prim.Native.Nat.{◌≤◌, min}
use native.Mathlib.Numerals.{add-one}
use native.Mathlib.Omega.{arith}
use lib.ListN.{get_or}
use Rattle.kept.specs.Stacks.{no_item, held_by_item, held_on, zones_in}
use Rattle.kept.proofs.Steps.{on_start, on_more, held_few, part_held}
use Rattle.kept.proofs.total.kept.Goals as goal
use Rattle.kept.proofs.total.kept.Goals.{After-count-total}

pub loop-i-init : goal.loop-i-init
loop-i-init c = (omega arith, omega arith, on_start _ _ _)

pub offset_bounds-s-i : goal.offset_bounds-s-i
offset_bounds-s-i c = omega (arith, c.loop-i-test.true, c.stacked-s.ensures.count_bound.0)

pub bounds-s-i : goal.bounds-s-i
bounds-s-i c = omega (arith, c.loop-i-test.true, c.stacked-s.ensures.count_bound.0)

pub overflow_mul-at : goal.overflow_mul-at
overflow_mul-at c = omega (arith, c.stacked-s.ensures.count_bound.1 c.loop-i.i c.loop-i-test.true, c.requires.1.0)

pub offset_bounds-cells-at : goal.offset_bounds-cells-at
offset_bounds-cells-at c = omega (arith, c.stacked-s.ensures.count_bound.1 c.loop-i.i c.loop-i-test.true, c.requires.1.0)

pub slice_bounds-count-count : goal.slice_bounds-count-count
slice_bounds-count-count c = omega (arith, c.stacked-s.ensures.count_bound.1 c.loop-i.i c.loop-i-test.true, c.requires.1.0)

pub slice_bounds-count-start : goal.slice_bounds-count-start
slice_bounds-count-start c = omega (arith, c.stacked-s.ensures.count_bound.1 c.loop-i.i c.loop-i-test.true, c.requires.1.0)

pub slice_bounds-count-end : goal.slice_bounds-count-end
slice_bounds-count-end c = omega (arith, c.stacked-s.ensures.count_bound.1 c.loop-i.i c.loop-i-test.true, c.requires.1.0)

-- what the item at i holds
held-now : (c : After-count-total) →
    let loop = c.loop-i in
    let s = c.args in
    (c.count-total.result ≡ min (held_by_item s.b (zones_in s.cells.now s.counts.now)
    (get_or c.stacked-s.result.list loop.i no_item)) 18446744073709551615)
    × (c.count-total.result ≤ 262144)
held-now c =
    let loop = c.loop-i in
    let s = c.args in
    let q = get_or c.stacked-s.result.list loop.i no_item in
    let e = c.count-total.ensures ∙ part_held s.b s.cells.now s.counts.now q _
    (c.stacked-s.ensures.count_bound.1 loop.i c.loop-i-test.true) c.min.ensures in
    (e, held_few s.b (zones_in s.cells.now s.counts.now) q c.count-total.result c.requires.0 e)

pub overflow_add-total : goal.overflow_add-total
overflow_add-total c =
    let loop = c.loop-i in
    omega (
      arith,
      loop.invariant.1,
      (held-now (goal.at.overflow_add-total c).After-count-total).1,
      c.stacked-s.ensures.count_bound.0,
      c.loop-i-test.true,
    )

pub loop-i-preserved : goal.loop-i-preserved
loop-i-preserved c =
    let loop = c.loop-i in
    let s = c.args in
    let held = held-now (goal.at.loop-i-preserved c).After-count-total in (
      omega (arith, c.loop-i-test.true),
      omega (arith, loop.invariant.1, held.1),
      rw (add-one loop.i) (on_more s.b (zones_in s.cells.now s.counts.now)
          c.stacked-s.result.list loop.i loop.total c.count-total.result
          c.requires.0 loop.invariant.2 held.0),
    )

pub returns : goal.returns
returns c =
    let loop = c.loop-i in
    let s = c.args in
    let all : loop.i ≡ c.stacked-s.result.count = omega (arith, loop.invariant.0, c.loop-i-test.false) in
    loop.invariant.2 ∙ ap (held_on s.b (zones_in s.cells.now s.counts.now) c.stacked-s.result.list) all
    ∙ c.stacked-s.ensures.same s.b
