-- What is first where a range is at its lowest is first of all.
use Rattle.std.proofs.Common.{◌≡◌, Option, get_or, sym, ◌∙◌, ℕ, ◌+◌, ◌-◌, ◌<◌, ◌≤◌, List, length, Some, arith}
use Rattle.corners.specs.Boxes.{Points, wide_from}
use Rattle.corners.specs.BoxLaws.{wide_low, wide_high, wide_points, wide_there}
use Rattle.expr.specs.Records.{PARAMETERS, blank_range}
use Rattle.expr.specs.declared.range.Range.{Range}
use Rattle.systems.specs.BoxLaws.{narrows_refl, points_within}
use Rattle.valuations.specs.Valuations.{width}
use Rattle.first_met.proofs.Nodes.{first_cornered, first_lowest, several, corner_long, points_next}
use Rattle.first_met.proofs.search.+low_from.Goals as goal

pub returns-then-meets : goal.returns-then-meets
returns-then-meets t c = λ e.
    let cs = c.args.b.list in
    first_cornered _ cs cs (narrows_refl _ cs) c.corner-v.result c.corner-v.ensures
    (corner_long _ cs c.corner-v.ensures c.well_formed.0.1.1.0.1.0.1) (c.inside.ensures.yes c.if-not-inside.false)
    (sym c.meets.ensures ∙ c.if-meets.true)

-- the place that is put in: its range has several numbers
record Place (cs : List Range) (start w : ℕ) : Type 0 where
  low : start ≤ w
  few : w < PARAMETERS
  wide : 1 < width (get_or cs w blank_range)
  before : Points start cs → Points w cs

place : (cs : List Range) (start w : ℕ) (o : Option ℕ) → start ≤ PARAMETERS → o ≡ wide_from cs start (PARAMETERS - start) → o ≡ Some w
    → Place cs start w
place cs start w o l e f =
    let n = PARAMETERS - start in
    let found = sym e ∙ f in record {
      low = wide_low cs n start w found;
      few = omega (arith, wide_high cs n start w found);
      wide = several (get_or cs w blank_range) (wide_there cs n start w found);
      before = wide_points cs n start w found;
    }

pub offset_bounds-b-w : goal.offset_bounds-b-w
offset_bounds-b-w t c = omega (arith, (place _ _ c.in_ok-w.w _ c.requires.0 c.wide.ensures cc).few)

pub bounds-b-w : goal.bounds-b-w
bounds-b-w t c = (place _ _ c.in_ok-w.w _ c.requires.0 c.wide.ensures cc).few

pub offset_bounds-d-w : goal.offset_bounds-d-w
offset_bounds-d-w t c = omega (arith, (place _ _ c.in_ok-w.w _ c.requires.0 c.wide.ensures cc).few)

pub bounds-d-w : goal.bounds-d-w
bounds-d-w t c = (place _ _ c.in_ok-w.w _ c.requires.0 c.wide.ensures cc).few

pub overflow_add-w : goal.overflow_add-w
overflow_add-w t c = omega (arith, (place _ _ c.in_ok-w.w _ c.requires.0 c.wide.ensures cc).few)

pub point-requires : goal.point-requires
point-requires t c = omega (arith, (place _ _ c.in_ok-w.w _ c.requires.0 c.wide.ensures cc).wide)

pub low_from-requires : goal.low_from-requires
low_from-requires t c =
    let at : Place c.args.b.list c.args.start c.in_ok-w.w = place _ _ c.in_ok-w.w _ c.requires.0 c.wide.ensures cc in (
      omega (arith, c.decreases),
      (
        omega arith,
        points_within (c.in_ok-w.w + 1) _ _ c.trimmed.ensures.within
            (points_next c.in_ok-w.w _ c.point.result _ c.point.ensures (at.before c.requires.1)),
      ),
    )

pub returns : goal.returns
returns t c =
    let cs = c.args.b.list in
    let at : Place cs c.args.start c.in_ok-w.w = place _ _ c.in_ok-w.w _ c.requires.0 c.wide.ensures cc in
    let l : length cs ≡ PARAMETERS = c.well_formed.0.1.1.0.1.0.1 in
    first_lowest _ cs _ c.in_ok-w.w c.point.result c.low_from.result (at.before c.requires.1) (omega arith) (omega arith)
    c.point.ensures c.trimmed.ensures c.low_from.ensures
