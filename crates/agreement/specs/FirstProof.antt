-- The proof of First: a piece is a zone of the cutting (Behind), whose first valuation it carries; an accepted sheet has a valuation in
-- its ranges, and so every zone holds one.
use Rattle.std.specs.Prelude.{◌≡◌, refl, List, [], ◌∷◌, Bool, true, false, ℕ, zero, suc, ◌+◌, ◌≤◌, ◌<◌, ℤ, pos, ltb, length, get_or}
use Rattle.std.proofs.Common.{sym, ap, subst, ◌∙◌, arith, ltb-true, ltb-false}
use Rattle.std.proofs.Math.ListN.{get_or-eq_default}
use Rattle.integer.specs.Apart.{apart}
use Rattle.integer.specs.Order.{≤ℤ-antisym}
use Rattle.cutting.specs.Cutting as cutting
use Rattle.cutting.specs.FirstHeld.{first_held, StartsFirst}
use Rattle.cutting.proofs.FirstHeldProof.{zones_first}
use Rattle.cutting.specs.Held.{InRanges}
use Rattle.coded.specs.CodedTests.{inside_length}
use Rattle.expr.specs.Ranges.{In, Inside}
use Rattle.expr.specs.Records.{PARAMETERS, places_from, blank_range, point, range_list, valuation_of}
use Rattle.expr.specs.RecordLaws.{places_same}
use Rattle.expr.specs.declared.range.Range.{Range}
use Rattle.reading.proofs.Accepted.{read_well_formed}
use Rattle.reading.specs.File.{Fine, read_of}
use Rattle.valuations.specs.First.{Earlier}
use Rattle.sheet.specs.WellFormed.{WellFormed}
use Rattle.sheet.specs.declared.Sheet.{Sheet}
use Rattle.timed.specs.Right.{lowest, lowest_inside}
use Rattle.sweep.specs.Proofs.{sweep_right}
use Rattle.sweep.specs.Theorems.{sheet_of}
use Rattle.pieces.specs.declared.Piece.{Piece}
use Rattle.agreement.specs.Behind.{Behind, lists_behind, six_outside, no_zone, member, pieces_are, piece_is, zone_holds, piece_holds}
use Rattle.agreement.specs.KeptProof.{answered_inside}
use Rattle.agreement.specs.Words.{pieces, piece_at, InRange, PieceHolds}
use Rattle.agreement.specs.First.{first_at, StartsAt, PiecesStart}

-- ---- an accepted sheet's ranges
-- a parameter that the sheet lacks is 0
lacking_range : (s : Sheet) → WellFormed s → (k : ℕ) → s.parameters ≤ k → get_or s.ranges.list k blank_range ≡ blank_range
lacking_range s f k h = by (ltb k PARAMETERS) refl
  where
    by : (b : Bool) → ltb k PARAMETERS ≡ b → get_or s.ranges.list k blank_range ≡ blank_range
    by true e = f.ranges.past k h (ltb-true k PARAMETERS e)
    by false e = get_or-eq_default s.ranges.list blank_range (rw f.ranges.long (ltb-false k PARAMETERS e))

zero_in : (r : Range) (x : ℤ) → r ≡ blank_range → In x r → x ≡ pos 0
zero_in r x e i =
    let j = subst (In x) e i in
    ≤ℤ-antisym j.most j.least

lacking_from : (l : List Range) (m : ℕ) → ((k : ℕ) → m ≤ k → get_or l k blank_range ≡ blank_range) → (n i : ℕ) (v : List ℤ)
    → Inside v (places_from blank_range l i n) → (k : ℕ) → m ≤ i + k → get_or v k (pos 0) ≡ pos 0
lacking_from l m h zero i [] a k g = refl
lacking_from l m h zero i (x ∷ v) a k g = absurd a
lacking_from l m h (suc n) i [] a k g = absurd a
lacking_from l m h (suc n) i (x ∷ v) a zero g = zero_in (get_or l i blank_range) x (h i (omega arith)) a.0
lacking_from l m h (suc n) i (x ∷ v) a (suc k) g = lacking_from l m h n (suc i) v a.1 k (omega arith)

lacking_all : (s : Sheet) (v : List ℤ) → WellFormed s → InRanges s v → (k : ℕ) → s.parameters ≤ k → get_or v k (pos 0) ≡ pos 0
lacking_all s v f i k l = lacking_from s.ranges.list s.parameters (lacking_range s f) PARAMETERS 0 v i k (omega arith)

-- a valuation of the ranges as the code's record, and back
point_of_lem : (s : Sheet) (v : List ℤ) → InRanges s v → point (valuation_of v) ≡ v
point_of_lem s v i = ap (places_from (pos 0) v 0) (sym (inside_length v (range_list s.ranges) i)) ∙ places_same (pos 0) v

inside_in_range : (file : List ℕ) (v : List ℤ) → Fine (read_of file) → InRanges (sheet_of file) v → InRange file v
inside_in_range file v f i = answered_inside file v (sweep_right.right file v f i).answered

-- ---- a piece
module _ {file : List ℕ} {n : ℕ} {zs : List cutting.Zone} (b : Behind file n zs) (i : ℕ) (h : i < pieces file n) where
  abbrev zone : cutting.Zone
  zone = get_or zs i no_zone

  abbrev held_first : List ℤ
  held_first = first_held (range_list (sheet_of file).ranges) zone

  well : WellFormed (sheet_of file)
  well = read_well_formed file b.fine

  starts : StartsFirst (sheet_of file) zone
  starts =
      let e = pieces_are b in
      let l : i < length zs = omega arith in
      zones_first (sheet_of file) (lowest (sheet_of file)) (lowest_inside (sheet_of file) well) zs b.listing zone (member zs i l)

  -- the valuation that it carries
  first_is : first_at file n i ≡ held_first
  first_is =
      ap (λ (z : Piece). point z.first) (piece_is b i h) ∙ point_of_lem (sheet_of file) held_first starts.inside

  starts_at : StartsAt file n i
  starts_at =
      record {
        in_range_lem = subst (InRange file) (sym first_is) (inside_in_range file held_first b.fine starts.inside);
        held = subst (PieceHolds (piece_at file n i)) (sym first_is) (piece_holds b i h held_first starts.inside starts.meets);
        none_earlier = λ v g e k.
            let inside = six_outside file v b.fine g in
            let t = zone_holds b i h v inside k in
            let f = starts.none_earlier v inside (subst (Earlier v) first_is e) in
            apart cc;
        lacking = λ k l. subst (λ (v : List ℤ). get_or v k (pos 0) ≡ pos 0) (sym first_is)
            (lacking_all (sheet_of file) held_first well starts.inside k l);
      }

pub pieces_start : PiecesStart
pieces_start file n lists i h = let behind = lists_behind file n lists in starts_at behind.1 i h
