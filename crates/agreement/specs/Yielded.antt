-- The proof of Cases: every row by computing, and from Sweep's answers to runs.
use Rattle.std.specs.Prelude.{◌≡◌, refl, ◌↔◌, List, [], ◌∷◌, true, false, ℕ, ℤ, pos, ◌+ℤ◌, ◌*ℤ◌, ◌≤ℤ◌}
use Rattle.std.proofs.Common.{subst, ap, inl, inr, arith}
use Rattle.cutting.specs.FirstHeld.{first_held}
use Rattle.cutting.specs.Kept.{kept_of}
use Rattle.cutting.specs.Cutting.{start_b, tested, put_entry, row_from, rows_from, places, pushed, guard_tree, never, list_zone}
use Rattle.cutting.specs.Cutting.{worked, guard_zones, on_bounds, step_zones, cut_steps, zones_along, zones_of}
use Rattle.dbm.specs.Matrix.{start, delayed, reset_m, resets_m, limited_m, guarded}
use Rattle.expr.specs.Affine.{dot, value, plus_l, minus_l, plus, minus, less_one, opposite}
use Rattle.intervals.specs.Interval.{interval}
use Rattle.expr.specs.Ranges.{In}
use Rattle.intervals.specs.IntervalLaws.{interval_exact}
use Rattle.weight.specs.Upper.{Upper, none, upper, sum_w, tighter_w}
use Rattle.expr.specs.Bounds.{at_v, sum_b, tighter_b}
use Rattle.valuations.specs.Valuations.{widths, span, width, before, valuations, satisfies, first_in, count_in, first, count}
use Rattle.expr.specs.Records.{point}
use Rattle.expr.specs.declared.number.Valuation.{Valuation}
use Rattle.expr.specs.declared.range.Range.{Range}
use Rattle.contents.specs.Contents.{sized, entry_field, version_of, most_parameters, head_of, one_of, first_of}
use Rattle.contents.specs.Contents.{two_of, second_of, three_of, third_of, four_of, contents_of}
use Rattle.cursor.specs.Cursor.{shifted, judged, byte_taken, word_taken, signed_taken, byte_field, word_field, signed_field, finished}
use Rattle.cursor.specs.Cursor.{iterate, below_field, signed_of}
use Rattle.integer.specs.Parts.{p, n}
use Rattle.parameters.specs.Parameters.{range_of, highest_right, highest_field, range_step, blank_ranges, parameters_read, parameters_at}
use Rattle.automaton.specs.Automaton.{blank_location, blank_locations, location_step, locations_read, locations_at, resets_right, resets_field}
use Rattle.automaton.specs.Automaton.{transition_at, blank_transition, blank_transitions, transition_step, transitions_read, transitions_at}
use Rattle.route.specs.Route.{route_step, route_read, route_at, ends_at, link_step, links_of}
use Rattle.reading.specs.File.{blank_sheet, refused_by, bodies_of, judged_route, judged_widths, judged_bodies, read_of}
use Rattle.guards.specs.Guards.{guard_expr, guard_bound, one_zero, right_field, coef_step, zero_coefs, coefs_at, zero_step, zeros_at, guard_at}
use Rattle.guards.specs.Guards.{blank_guard, blank_guards, guard_step, guards_at}
use Rattle.sheet.specs.declared.Sheet.{Sheet}
use Rattle.weight_matrix.specs.Records.{row}
use Rattle.agreement.specs.Cases.{SheetRow, IntervalRow, counts_in, SheetYields, IntervalYields, at, all, ListedCases}
use Rattle.agreement.specs.Cases.{row_a, row_strict, row_pq, row_qp, row_free, row_none, row_back}
use Rattle.agreement.specs.Cases.{row_down, row_up, row_touch, row_apart, row_never, row_four}
use Rattle.coded.specs.Records.{row_of, bounds_of, zone_of, zones_in}
use Rattle.answers.specs.Numbers.{numbered}
use Rattle.concrete.specs.Walk.{step, walk, sweep_along, sweep_at}
use Rattle.integer.specs.Floor.{floor_z}
use Rattle.sweep.specs.Reply as sweep
use Rattle.sweep.specs.Reply.{blank_reply, swept, outside}
use Rattle.sweep.specs.Proofs.{sweep_right}
use Rattle.sweep.specs.Theorems.{sheet_of, IsRun, IsVoid, entry_at}
use Rattle.timed.specs.Automaton.{invariants, guards_of, route_of}
use Rattle.timed.specs.Runs.{Run, Tightest}
use Rattle.timed.specs.Steps.{arrival_steps, stay_steps, move_steps, steps_from, steps_of}
use Rattle.windows_reply.specs.Reply.{Answered, answered_of, listing_reply}
use Rattle.pieces.specs.Pieces.{table_of}
use Rattle.windows_reply.specs.Reply as windows
use Rattle.agreement.specs.Behind.{lists_behind, six_outside}
use Rattle.agreement.specs.KeptProof.{answered_inside}
use Rattle.agreement.specs.Words.{windows_of, Lists}

-- ---- from Sweep's answer to runs
some_run : (s : Sheet) (v : List ℤ) (i j : ℕ) (b : Upper ℤ) → Tightest s v i j b → Run s v
some_run s v i j none t = (t (pos 0)).0
some_run s v i j (upper false c) t = t.1.0
some_run s v i j (upper true c) t = (t.1 1 (omega arith)).0

module _ (r : SheetRow) (lists : answered_of (windows_of r.file 32) ≡ record { answer = numbered 0 0; counts = counts_in r })
    (v : Valuation) where
  listed : Lists r.file 32
  listed = ap (λ (x : Answered). x.answer.number) lists

  ran : IsRun r.file (point v) → IsRun r.file (point v) × Run (sheet_of r.file) (point v)
  ran e =
      let b = (lists_behind r.file 32 listed).1 in
      let g = six_outside r.file (point v) b.fine (answered_inside r.file (point v) (inl e)) in (
        e,
        some_run (sheet_of r.file) (point v) 0 0 (entry_at (sweep.reply_of r.file (point v)) 0 0)
            ((sweep_right.right r.file (point v) b.fine g).entries_tightest e 0 0 (omega arith) (omega arith)),
      )

  none_ran : IsVoid r.file (point v) → IsVoid r.file (point v) × (Run (sheet_of r.file) (point v) → ⊥)
  none_ran e =
      let b = (lists_behind r.file 32 listed).1 in
      let g = six_outside r.file (point v) b.fine (answered_inside r.file (point v) (inr e)) in
      (e, (sweep_right.right r.file (point v) b.fine g).void_iff_no_run.0 e)

interval_yields : (r : IntervalRow) → interval r.whole r.constant r.slope ≡ r.part → IntervalYields r
interval_yields r e =
    record {
      is = e;
      exactly =
          λ x.
          subst (λ (q : Range). In x q ↔ (In x r.whole × (pos 0 ≤ℤ (r.constant +ℤ (r.slope *ℤ x))))) e
          (interval_exact r.whole r.constant r.slope x);
    }

-- ---- the bytes of sheet A: bodies of 5, 16, 17 and 2 bytes at 22, 27, 43 and 60
pub bytes_of_a :
    row_a.file
    ≡ (1 ∷ 4 ∷ 1 ∷ 22 ∷ 0 ∷ 5 ∷ 0 ∷ 2 ∷ 27 ∷ 0 ∷ 16 ∷ 0 ∷ 3 ∷ 43 ∷ 0 ∷ 17 ∷ 0 ∷ 4 ∷ 60 ∷ 0 ∷ 2 ∷ 0
    ∷ 1 ∷ 0 ∷ 0 ∷ 10 ∷ 0
    ∷ 1 ∷ 2 ∷ 1 ∷ 1 ∷ 0 ∷ 0 ∷ 0 ∷ 0 ∷ 0 ∷ 1 ∷ 0 ∷ 0 ∷ 0 ∷ 0 ∷ 0 ∷ 0
    ∷ 1 ∷ 0 ∷ 1 ∷ 0 ∷ 1 ∷ 0 ∷ 1 ∷ 0 ∷ 0 ∷ 253 ∷ 255 ∷ 0 ∷ 0 ∷ 0 ∷ 0 ∷ 0 ∷ 0
    ∷ 1 ∷ 0 ∷ [])
bytes_of_a = refl

-- ---- every row
pub listed_cases : ListedCases
unfolding start_b tested put_entry row_from rows_from places pushed guard_tree never list_zone worked guard_zones on_bounds step_zones
    cut_steps zones_along zones_of kept_of first_held widths start delayed reset_m resets_m limited_m guarded dot value plus_l minus_l plus
    minus less_one opposite at_v sum_w sum_b tighter_w tighter_b span width before valuations satisfies first_in count_in first count p n
    sized entry_field version_of most_parameters head_of one_of first_of two_of second_of three_of third_of four_of contents_of shifted judged
    byte_taken word_taken signed_taken byte_field word_field signed_field finished iterate range_of highest_right highest_field range_step
    blank_ranges parameters_read parameters_at blank_location blank_locations location_step locations_read locations_at below_field
    resets_right resets_field transition_at blank_transition blank_transitions transition_step transitions_read transitions_at route_step
    route_read route_at blank_sheet refused_by bodies_of judged_route judged_widths judged_bodies read_of signed_of guard_expr guard_bound
    one_zero right_field coef_step zero_coefs coefs_at zero_step zeros_at guard_at blank_guard blank_guards guard_step guards_at ends_at link_step
    links_of row blank_reply swept outside sweep.sheet_reply sweep.read_reply sweep.reply_of step walk sweep_along sweep_at arrival_steps
    stay_steps move_steps steps_from steps_of invariants guards_of route_of listing_reply windows.sheet_reply windows.read_reply
    windows.reply_of table_of interval floor_z row_of bounds_of zone_of zones_in
listed_cases = (a, (strict, (pq, (qp, (free, (empty, (back, (down, (up, (touch, (gap, (early, (four, tt)))))))))))))
  where
    a : SheetYields row_a
    a =
        record {
          lists = refl;
          pieces = refl;
          entries = (refl, (refl, (refl, (refl, tt))));
          runs = (ran row_a refl (at (pos 3)) refl, tt);
          voids = (none_ran row_a refl (at (pos 2)) refl, tt);
        }

    strict : SheetYields row_strict
    strict =
        record {
          lists = refl;
          pieces = refl;
          entries = tt;
          runs = (ran row_strict refl (at (pos 4)) refl, tt);
          voids = (none_ran row_strict refl (at (pos 3)) refl, tt);
        }

    pq : SheetYields row_pq
    pq = record { lists = refl; pieces = refl; entries = tt; runs = tt; voids = tt }

    qp : SheetYields row_qp
    qp = record { lists = refl; pieces = refl; entries = tt; runs = tt; voids = tt }

    free : SheetYields row_free
    free = record { lists = refl; pieces = refl; entries = (refl, tt); runs = (ran row_free refl (at (pos 0)) refl, tt); voids = tt }

    empty : SheetYields row_none
    empty = record { lists = refl; pieces = refl; entries = tt; runs = tt; voids = (none_ran row_none refl (at (pos 0)) refl, tt) }

    back : SheetYields row_back
    back = record { lists = refl; pieces = refl; entries = tt; runs = tt; voids = tt }

    down : IntervalYields row_down
    down = interval_yields row_down refl

    up : IntervalYields row_up
    up = interval_yields row_up refl

    touch : SheetYields row_touch
    touch = record { lists = refl; pieces = refl; entries = tt; runs = (ran row_touch refl (at (pos 0)) refl, tt); voids = tt }

    gap : SheetYields row_apart
    gap = record { lists = refl; pieces = refl; entries = tt; runs = tt; voids = (none_ran row_apart refl (at (pos 0)) refl, tt) }

    early : SheetYields row_never
    early = record { lists = refl; pieces = refl; entries = tt; runs = tt; voids = (none_ran row_never refl (at (pos 0)) refl, tt) }

    four : SheetYields row_four
    four =
        record {
          lists = refl;
          pieces = refl;
          entries = (refl, (refl, tt));
          runs = (ran row_four refl (all (pos 0) (pos 0) (pos 1) (pos 3)) refl, tt);
          voids = (none_ran row_four refl (all (pos 0) (pos 0) (pos 1) (pos 2)) refl, tt);
        }
