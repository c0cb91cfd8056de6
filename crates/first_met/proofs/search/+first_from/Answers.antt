-- The narrowed box has no more numbers than the box, and each of its parts fewer than the narrowed one.
use mathlib.Core.Path.{◌≡◌, refl, sym, ◌∙◌}
use mathlib.Core.List.{List}
use Prim.Native.Nat.{ℕ, ◌+◌, ◌/◌, ◌<◌}
use native.Mathlib.Omega.{arith}
use lib.ListN.{length, get_or}
use Rattle.corners.specs.Boxes.{Points, wide_from}
use Rattle.std.specs.Prelude.{Option, Some, None}
use Rattle.corners.specs.BoxLaws.{wide_high, wide_points, wide_there, none_points}
use Rattle.expr.specs.Records.{PARAMETERS, blank_range}
use Rattle.expr.specs.declared.range.Range.{Range}
use Rattle.systems.specs.BoxLaws.{narrows_long}
use Rattle.valuations.specs.Valuations.{width}
use Rattle.first_met.specs.Halves.{fewer_lower, fewer_upper}
use Rattle.first_met.proofs.Nodes.{first_emptied, first_cornered, first_pointed, first_lower, first_upper}
use Rattle.first_met.proofs.Nodes.{several, corner_long}
use Rattle.first_met.proofs.search.+first_from.Goals as goal

pub returns-then-not-inside : goal.returns-then-not-inside
returns-then-not-inside t c =
    first_emptied _ _ _ c.narrowed-c.ensures _ c.corner-v.ensures (c.inside.ensures.no c.if-not-inside.true)

pub returns-then-meets : goal.returns-then-meets
returns-then-meets t c =
    let cs = c.narrowed-c.result.list in
    let l : length cs ≡ PARAMETERS = narrows_long _ _ _ PARAMETERS c.narrowed-c.ensures c.well_formed.0.1.1.0.1.0.1 in
    first_cornered _ _ cs c.narrowed-c.ensures c.corner-v.result c.corner-v.ensures (corner_long _ cs c.corner-v.ensures l)
    (c.inside.ensures.yes c.if-not-inside.false) (sym c.meets.ensures ∙ c.if-meets.true)

-- the place that is parted: its range has several numbers
record Place (cs : List Range) (w : ℕ) : Type 0 where
  few : w < PARAMETERS
  wide : 1 < width (get_or cs w blank_range)
  before : Points w cs

place : (cs : List Range) (w : ℕ) (o : Option ℕ) → o ≡ wide_from cs 0 PARAMETERS → o ≡ Some w → Place cs w
place cs w o e f =
    let found = sym e ∙ f in record {
      few = wide_high cs PARAMETERS 0 w found;
      wide = several (get_or cs w blank_range) (wide_there cs PARAMETERS 0 w found);
      before = wide_points cs PARAMETERS 0 w found tt;
    }

-- there is none: the corner is the only valuation
pub returns-in_err-w : goal.returns-in_err-w
returns-in_err-w t c =
    let cs = c.narrowed-c.result.list in
    let l : length cs ≡ PARAMETERS = narrows_long _ _ _ PARAMETERS c.narrowed-c.ensures c.well_formed.0.1.1.0.1.0.1 in
    let none : c.wide.result ≡ None = cc in
    let result : c.from_residual.result ≡ None = cc in
    result
    ∙ first_pointed _ _ cs c.narrowed-c.ensures PARAMETERS _ c.corner-v.ensures (omega arith)
    (none_points cs PARAMETERS 0 (sym c.wide.ensures ∙ none) tt)
    (sym c.meets.ensures ∙ c.if-meets.false)

pub offset_bounds-c-w : goal.offset_bounds-c-w
offset_bounds-c-w t c = omega (arith, (place _ c.in_ok-w.w _ c.wide.ensures cc).few)

pub bounds-c-w : goal.bounds-c-w
bounds-c-w t c = (place _ c.in_ok-w.w _ c.wide.ensures cc).few

pub offset_bounds-d-w : goal.offset_bounds-d-w
offset_bounds-d-w t c = omega (arith, (place _ c.in_ok-w.w _ c.wide.ensures cc).few)

pub bounds-d-w : goal.bounds-d-w
bounds-d-w t c = (place _ c.in_ok-w.w _ c.wide.ensures cc).few

pub offset_bounds-e-w : goal.offset_bounds-e-w
offset_bounds-e-w t c = omega (arith, (place _ c.in_ok-w.w _ c.wide.ensures cc).few)

pub bounds-e-w : goal.bounds-e-w
bounds-e-w t c = (place _ c.in_ok-w.w _ c.wide.ensures cc).few

some_at : (n x : ℕ) → 1 < n → x ≡ n → 0 < (x + 2) / 4
some_at n x h e = omega arith

few_at : (n x : ℕ) → 1 < n → x ≡ n → (x + 2) / 4 < n
few_at n x h e = omega arith

less-at : {a b t : ℕ} → a < b → b ≡ t → a < t
less-at h e = rw e at h

pub lower-requires : goal.lower-requires
lower-requires t c =
    let m = (place c.narrowed-c.result.list c.in_ok-w.w _ c.wide.ensures cc).wide in
    (some_at _ _ m c.width.ensures.value, few_at _ _ m c.width.ensures.value)

pub first_from-s-requires : goal.first_from-s-requires
first_from-s-requires t c =
    let cs = c.narrowed-c.result.list in
    let l : length cs ≡ PARAMETERS = narrows_long _ _ _ PARAMETERS c.narrowed-c.ensures c.well_formed.0.1.1.0.1.0.1 in
    let at : Place cs c.in_ok-w.w = place _ c.in_ok-w.w _ c.wide.ensures cc in
    let m = at.wide in
    let h = fewer_lower _ _ _ c.narrowed-c.ensures c.in_ok-w.w _ _ refl (some_at _ _ m c.width.ensures.value)
    (few_at _ _ m c.width.ensures.value) (omega (arith, l)) in
    (rw c.lower.ensures (less-at h c.decreases), tt)

pub returns-then-is_some : goal.returns-then-is_some
returns-then-is_some t c =
    let cs = c.narrowed-c.result.list in
    let l : length cs ≡ PARAMETERS = narrows_long _ _ _ PARAMETERS c.narrowed-c.ensures c.well_formed.0.1.1.0.1.0.1 in
    let at : Place cs c.in_ok-w.w = place _ c.in_ok-w.w _ c.wide.ensures cc in
    let m = at.wide in
    first_lower _ _ _ c.narrowed-c.ensures c.in_ok-w.w _ (some_at _ _ m c.width.ensures.value)
    (few_at _ _ m c.width.ensures.value) (omega (arith, l)) at.before
    c.first_from-s.result (rw c.lower.ensures at c.first_from-s.ensures) (sym c.is_some.ensures ∙ c.if-is_some.true)

pub upper-requires : goal.upper-requires
upper-requires t c =
    let m = (place c.narrowed-c.result.list c.in_ok-w.w _ c.wide.ensures cc).wide in
    few_at _ _ m c.width.ensures.value

pub first_from-requires : goal.first_from-requires
first_from-requires t c =
    let cs = c.narrowed-c.result.list in
    let l : length cs ≡ PARAMETERS = narrows_long _ _ _ PARAMETERS c.narrowed-c.ensures c.well_formed.0.1.1.0.1.0.1 in
    let at : Place cs c.in_ok-w.w = place _ c.in_ok-w.w _ c.wide.ensures cc in
    let m = at.wide in
    let h = fewer_upper _ _ _ c.narrowed-c.ensures c.in_ok-w.w _ _ refl (some_at _ _ m c.width.ensures.value)
    (few_at _ _ m c.width.ensures.value) (omega (arith, l)) in
    (rw c.upper.ensures (less-at h c.decreases), tt)

pub returns : goal.returns
returns t c =
    let cs = c.narrowed-c.result.list in
    let l : length cs ≡ PARAMETERS = narrows_long _ _ _ PARAMETERS c.narrowed-c.ensures c.well_formed.0.1.1.0.1.0.1 in
    let at : Place cs c.in_ok-w.w = place _ c.in_ok-w.w _ c.wide.ensures cc in
    let m = at.wide in
    first_upper _ _ _ c.narrowed-c.ensures c.in_ok-w.w _ (some_at _ _ m c.width.ensures.value)
    (few_at _ _ m c.width.ensures.value) (omega (arith, l)) at.before
    c.first_from-s.result (rw c.lower.ensures at c.first_from-s.ensures) c.first_from.result (sym c.is_some.ensures ∙ c.if-is_some.false)
    (rw c.upper.ensures at c.first_from.ensures)
