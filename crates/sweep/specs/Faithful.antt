-- What the code replies, with its matrix as a table, is Sweep's reply.
use Rattle.std.specs.Prelude.{◌≡◌, refl, List, [], ◌∷◌, ℕ, ℤ, pos}
use Rattle.std.proofs.Common.{◌∙◌, ap, zero-le, lit≤}
use Rattle.std.proofs.Math.Option.{Option, none, some}
use Rattle.dbm.specs.Matrix.{Matrix, Outcome, void, kept}
use Rattle.weight.specs.Upper.{Upper, zero_w}
use Rattle.expr.specs.Ranges.{Inside}
use Rattle.expr.specs.Records.{PARAMETERS, blank_range, range_list}
use Rattle.expr.specs.declared.range.Range.{Range}
use Rattle.integer.specs.Order.{≤ℤ-trans}
use Rattle.sheet.specs.declared.Sheet.{Sheet}
use Rattle.sheet.specs.WellFormed.{WellFormed}
use Rattle.cursor_laws.specs.Right.{Small}
use Rattle.walk.specs.Coded.{coded, row_at, table_not_void}
use Rattle.walk.proofs.CodedWalk.{sweep_coded}
use Rattle.sweep.specs.Reply.{swept, outside, or_outside, sheet_reply}
use Rattle.sweep.specs.ReplyLaws.{outside_none}
use Rattle.concrete.specs.Sizes.{Thousands, start_visited, walk_visited}
use Rattle.sweep.specs.TableReply.{swept_table, sheet_table}
use Rattle.walk.specs.Walked.{sweep_table}
use Rattle.concrete.specs.Walk.{sweep_along, sweep_at}
use Rattle.timed.specs.Automaton.{route_of}
use Rattle.timed.specs.Lists.{AllOf}
use Rattle.timed.specs.Right.{filled_at, places_all}
use Rattle.timed.proofs.Right.{steps_right}
use Rattle.timed.specs.Steps.{steps_of}

-- a matrix that Sweep comes to is zero at (0, 0)
first_zero : {s : Sheet} → WellFormed s → (v : List ℤ) → Thousands v → (m : Matrix (Upper ℤ)) → sweep_at s v ≡ kept m → m 0 0 ≡ zero_w
unfolding sweep_at sweep_along
first_zero {s} f v h m e =
    (walk_visited s.parameters v h (steps_of s (route_of s)) (steps_right f (route_of s)) 0 (start_visited s.clocks) e).closed.diagonal 0 zero-le

swept_coded : (o : Outcome) → ((m : Matrix (Upper ℤ)) → o ≡ kept m → m 0 0 ≡ zero_w) → swept_table (coded o) ≡ swept o
unfolding swept_table coded swept
swept_coded void z = refl
swept_coded (kept m) z =
    rw (
      table_not_void m (z m refl),
      row_at m 0 zero-le,
      row_at m 1 (lit≤ tt),
      row_at m 2 (lit≤ tt),
      row_at m 3 (lit≤ tt),
      row_at m 4 (lit≤ tt),
    )
    refl

-- ranges of small numbers
abbrev SmallRange : Range → Type 0
SmallRange r = Small r.low × Small r.high

in_small : (rs : List Range) (v : List ℤ) → AllOf SmallRange rs → Inside v rs → Thousands v
in_small [] [] f h = tt
in_small [] (x ∷ v) f h = absurd h
in_small (r ∷ rs) [] f h = absurd h
in_small (r ∷ rs) (x ∷ v) f h =
    (record { least = ≤ℤ-trans f.0.0.least h.0.least; most = ≤ℤ-trans h.0.most f.0.1.most }, in_small rs v f.1 h.1)

sheet_small : (s : Sheet) → WellFormed s → AllOf SmallRange (range_list s.ranges)
sheet_small s f =
    let zero : Small (pos 0) = record { least = record { le = tt }; most = record { le = tt } } in
    places_all SmallRange blank_range s.ranges.list 0 PARAMETERS
    (filled_at f.ranges SmallRange (λ r h. (h.low, h.high)) (zero, zero) (zero, zero))

pub sheet_faithful : (s : Sheet) → WellFormed s → (v : List ℤ) → sheet_table s v ≡ sheet_reply s v
unfolding sheet_table sheet_reply
sheet_faithful s f v = by (outside 0 (range_list s.ranges) v) refl
  where
    by : (o : Option ℕ) → outside 0 (range_list s.ranges) v ≡ o
        → or_outside (swept_table (sweep_table s v)) o ≡ or_outside (swept (sweep_at s v)) o
    by (some k) e = refl
    by none e =
        let t = in_small (range_list s.ranges) v (sheet_small s f) (outside_none 0 (range_list s.ranges) v e) in
        ap swept_table (sweep_coded s f v t) ∙ swept_coded (sweep_at s v) (first_zero f v t)
