-- What the inequalities leave of the box is empty, or met throughout, or one valuation, or is gone over row by row or number by number.
use mathlib.Core.Path.{◌≡◌, refl, ◌∙◌}
use mathlib.Core.List.{List}
use Prim.Native.Nat.{ℕ, ◌+◌, ◌<◌, min}
use native.Mathlib.Omega.{arith}
use lib.IntN.{ℤ}
use lib.ListN.{length, get_or, set}
use Rattle.corners.specs.Boxes.{point_of, Wide}
use Rattle.expr.specs.Affine.{Affine}
use Rattle.expr.specs.Records.{PARAMETERS, blank_range}
use Rattle.expr.specs.declared.range.Range.{Range}
use Rattle.picking.specs.Wides.{wides}
use Rattle.sifting.specs.Sifting.{count_sifted}
use Rattle.systems.specs.Boxes.{Narrows}
use Rattle.systems.specs.BoxLaws.{narrows_long}
use Rattle.inequalities.specs.Flat.{exprs_in}
use Rattle.valuations.specs.Valuations.{count, width}
use Rattle.widths.specs.Cap.{CAP}
use Rattle.counting.proofs.Nodes.{count_emptied, count_sifted_out, count_kept, count_ended, count_begin}
use Rattle.counting.proofs.Nodes.{count_more, count_done, count_small, fewer_wide}
use Rattle.counting.proofs.counted.+count_from.Goals as goal
use Rattle.counting.proofs.counted.+count_from.Goals.{then-k-gt25, else-k-gt25}

pub returns-then-v-eq0 : goal.returns-then-v-eq0
returns-then-v-eq0 t c = count_emptied _ _ _ c.narrowed-c.ensures _ c.volume-v.ensures c.if-v-eq0.true

pub returns-then-k-eq0 : goal.returns-then-k-eq0
returns-then-k-eq0 t c =
    count_sifted_out _ _ _ c.narrowed-c.ensures _ c.sifted-k.result _ c.volume-v.ensures c.if-k-eq0.true c.sifted-k.ensures

pub returns-in_default : goal.returns-in_default
returns-in_default t c = count_ended _ _ _ c.narrowed-c.ensures _ c.single.ensures

pub returns-then-by_rows : goal.returns-then-by_rows
returns-then-by_rows t c =
    let few = c.by_rows.ensures c.if-by_rows.true in
    count_ended _ _ _ c.narrowed-c.ensures _
    (count_small _ _ (c.count_rows.ensures.value ∙ count_sifted _ _ _ _ (c.sifted-k.ensures few.0) (λ v i. i))
    c.count_rows.ensures.small)

-- fewer ranges have several numbers where one is put in for the narrowest
fewer : (es : List Affine) (rs cs : List Range) (w t : ℕ) (q : Range) (x : ℤ) → Narrows es rs cs → length rs ≡ PARAMETERS
    → w < PARAMETERS → Wide w cs → q ≡ point_of x → wides rs ≡ t → wides (set cs w q) < t
fewer es rs cs w t q x h l k g e m =
    let long : length cs ≡ PARAMETERS = narrows_long _ _ _ PARAMETERS h l in
    rw m at (fewer_wide es rs cs w q x h (omega arith) g e)

pub loop-i-init : goal.loop-i-init
loop-i-init t c =
    let long : length c.narrowed-c.result.list ≡ PARAMETERS =
    narrows_long _ _ _ PARAMETERS c.narrowed-c.ensures c.well_formed.0.1.1.0.1.0.1 in (
      omega arith,
      c.width-m.ensures.small,
      c.width-m.ensures.value,
      omega arith,
      count_begin _ c.narrowed-c.result.list c.in-Some.w _ _ (omega (arith, long, c.in-Some.ensures.some.0)) refl
          c.width-m.ensures.value,
    )

pub count_from-more-requires : goal.count_from-more-requires
count_from-more-requires t c = (
  fewer _ c.args.b.list c.narrowed-c.result.list c.in-Some.w t c.point.result _ c.narrowed-c.ensures
      c.well_formed.0.1.1.0.1.0.1 c.in-Some.ensures.some.0 c.in-Some.ensures.some.1 c.point.ensures c.decreases,
  tt,
)

pub count_from-more-requires-else-k-gt25 : goal.count_from-more-requires-else-k-gt25
count_from-more-requires-else-k-gt25 t c = (
  fewer _ c.args.b.list c.narrowed-c.result.list c.in-Some.w t c.point.result _ c.narrowed-c.ensures
      c.well_formed.0.1.1.0.1.0.1 c.in-Some.ensures.some.0 c.in-Some.ensures.some.1 c.point.ensures c.decreases,
  tt,
)

pub loop-i-preserved : goal.loop-i-preserved
loop-i-preserved t c =
    let cs = c.narrowed-c.result.list in
    let w = c.in-Some.w in
    let range = get_or cs w blank_range in
    let i = c.loop-i in
    let more = c.if-k-gt25.more in
    let few : i.i < width range = omega (arith, i.invariant.2, c.loop-i-test.true) in
    let here : more ≡ min (count (set cs w c.point.result) (exprs_in c.args.flat.now c.args.n)) CAP =
    elim c.if-k-gt25.branch [
      | then-k-gt25 y ↦ y.more-is ∙ y.count_from-more.ensures
      | else-k-gt25 y ↦ count_kept _ _ cs w i.i more c.point.result
          (c.sifted-k.ensures (omega (arith, y.if-k-gt25.false))) c.point.ensures few (y.more-is ∙ y.count_from-more-else-k-gt25.ensures)
    ] in
    let total : c.saturating_add-total.result ≡ min (i.total + more) CAP = c.saturating_add-total.ensures in (
      omega (arith, c.loop-i-test.true),
      i.invariant.1,
      i.invariant.2,
      omega (arith, total),
      count_more _ cs w range c.width-m.result i.i i.total c.saturating_add-total.result more c.point.result c.loop-i-test.true
          c.point.ensures here total i.invariant.4,
    )

pub returns : goal.returns
returns t c =
    let cs = c.narrowed-c.result.list in
    let range = get_or cs c.in-Some.w blank_range in
    count_ended _ _ _ c.narrowed-c.ensures _
    (count_done _ cs c.in-Some.w range c.width-m.result c.loop-i.i c.loop-i.total (omega (arith, c.loop-i-test.false))
    c.loop-i.invariant.3 c.loop-i.invariant.4)
