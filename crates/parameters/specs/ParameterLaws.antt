-- Body 1: what was read of it, if reading has not stopped, is right. From the definitions of `Parameters`.
use Rattle.std.specs.Prelude.{ℕ, ◌-◌, ◌≤◌, ◌≡◌, List, true, ◌&&◌, ltb}
use Rattle.std.proofs.Math.Path.{refl}
use Rattle.std.proofs.Common.{ap, arith}
use Rattle.std.proofs.Math.Bool.{cond}
use Rattle.std.proofs.Math.ListN.{set}
use Rattle.std.proofs.Math.Dec.{leb}
use borrow.Author.Tests.{leb-true}
use Rattle.integer.specs.Bools.{and_left, and_right}
use Rattle.cursor.specs.declared.Cursor.{Cursor}
use Rattle.cursor.specs.Cursor.{byte_field, number_field, signed_field}
use Rattle.cursor_laws.specs.Laws.{judged_right, finished_ok, byte_field_right, signed_field_right}
use Rattle.cursor_laws.specs.Numbers.{small_number, number_order, number_width}
use Rattle.cursor_laws.specs.FilledLaws.{step, filled}
use Rattle.expr.specs.Records.{PARAMETERS, blank_range}
use Rattle.expr.specs.declared.range.Range.{Range}
use Rattle.parameters.specs.declared.ParametersAt.{ParametersAt}
use Rattle.parameters.specs.Parameters.{range_of, highest_right, highest_field, range_step, blank_ranges, parameters_read, parameters_at}
use Rattle.parameters.specs.Right.{RangeRight, RangesRight}

below : {a b c : ℕ} → a ≤ b → b ≤ c → a ≤ c
below f g = omega arith

module _ (s : List ℕ) (end : ℕ) where
  highest_field_right :
      (low : Cursor) → (highest_field s end low).ok ≡ true →
      (low.ok ≡ true) ×
      (((31768 ≤ (highest_field s end low).word) × ((highest_field s end low).word ≤ 33768)) ×
      ((low.word ≤ (highest_field s end low).word) × ((highest_field s end low).word - low.word ≤ 63)))
  unfolding highest_field highest_right
  highest_field_right low h =
      let t = signed_field s end 31768 33768 low in
      let j = judged_right low t (leb low.word t.word && leb (t.word - low.word) 63) h in
      let f = signed_field_right s end 31768 33768 low j.0 in
      let o = and_left (leb low.word t.word) (leb (t.word - low.word) 63) j.1.0 in
      let w = and_right (leb low.word t.word) (leb (t.word - low.word) 63) j.1.0 in
      (f.0, rw j.1.1 (f.1, (leb-true low.word t.word o, leb-true (t.word - low.word) 63 w)))

  -- the range of one parameter
  range_right :
      (cursor : Cursor) → (highest_field s end (number_field s end cursor)).ok ≡ true →
      (cursor.ok ≡ true) ×
      RangeRight (range_of (number_field s end cursor).word (highest_field s end (number_field s end cursor)).word)
  unfolding range_of
  range_right cursor h =
      let low = number_field s end cursor in
      let high = highest_field s end low in
      let hh = highest_field_right low h in
      let hl = signed_field_right s end 31768 33768 cursor hh.0 in (
        hl.0,
        record {
          low = small_number low.word hl.1;
          high = small_number high.word hh.1.0;
          order = number_order low.word high.word hh.1.1.0;
          width = number_width low.word high.word hh.1.1.0 hh.1.1.1;
        },
      )

  module _ (most : ℕ) (few : most ≤ PARAMETERS) (cursor : Cursor) where
    parameters_read_right :
        (parameters_read s end most cursor).cursor.ok ≡ true →
        (cursor.ok ≡ true) ×
        (((parameters_read s end most cursor).count ≤ most) ×
        RangesRight (parameters_read s end most cursor).count (parameters_read s end most cursor).ranges.list)
    unfolding parameters_read range_step blank_ranges
    parameters_read_right h =
        let count = byte_field s end 0 most cursor in
        let start : ParametersAt = record { cursor = count; count = count.byte; ranges = record { list = blank_ranges } } in
        let d =
        filled {A = ParametersAt} {B = Range} PARAMETERS count.byte blank_range blank_range RangeRight (λ x. x.cursor.ok)
        (λ x. x.ranges.list) (λ x. x.count ≡ count.byte) (range_step s end) start refl refl
        (λ o. below (byte_field_right s end 0 most cursor o).1.1 few)
        (λ i x hi k.
        let low = number_field s end x.cursor in
        let high = highest_field s end low in
        let range = range_of low.word high.word in
        let next : ParametersAt =
        record { cursor = high; count = x.count; ranges = record { list = set x.ranges.list i range } } in
        step PARAMETERS count.byte blank_range blank_range RangeRight (λ x. x.cursor.ok) (λ x. x.ranges.list)
        (λ x. x.count ≡ count.byte) (range_step s end) i x next range (ap (λ (n : ℕ). cond (ltb i n) next x) k) k k refl
        (λ o. range_right x.cursor o))
        h in
        let hc = byte_field_right s end 0 most cursor d.0 in
        (hc.0, rw d.1.0 (hc.1.1, d.1.1))

    -- the count and the ranges
    pub parameters_at_right :
        (parameters_at s end most cursor).cursor.ok ≡ true →
        (cursor.ok ≡ true) ×
        (((parameters_at s end most cursor).count ≤ most) ×
        RangesRight (parameters_at s end most cursor).count (parameters_at s end most cursor).ranges.list)
    unfolding parameters_at
    parameters_at_right h = parameters_read_right (finished_ok s end (parameters_read s end most cursor).cursor h)
