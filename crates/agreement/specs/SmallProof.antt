-- The proof of Small: a piece is a zone of the cutting (Behind), whose entries are small, and zero past the sheet's clocks.
use Rattle.std.specs.Prelude.{◌≡◌, refl, Bool, true, false, ℕ, ◌≤◌, ◌<◌, ltb, length, get_or}
use Rattle.std.proofs.Common.{sym, ap, ◌∙◌, inl, inr, arith, ltb-true, ltb-false}
use Rattle.std.proofs.Math.Path.{subst}
use mathlib.Core.List.{List, [], append-nil}
use Rattle.coded.specs.Coded.{entry_at}
use Rattle.coded.specs.CodedTests.{pad_size}
use Rattle.coded.specs.Records.{zone_of}
use Rattle.constrain.specs.Rules.{entry_c}
use Rattle.cutting.specs.Cutting as cutting
use Rattle.cutting.proofs.ShapeProof.{zones_shaped}
use Rattle.dbm.specs.Matrix.{Outside}
use Rattle.expr.specs.Records.{bound_as}
use Rattle.expr.specs.declared.bound.Bound.{Bound}
use Rattle.reading.proofs.Accepted.{read_well_formed}
use Rattle.sheet.specs.WellFormed.{WellFormed}
use Rattle.sizes.specs.SizeLaws.{zero_size}
use Rattle.sizes.specs.Sizes.{AtMostB, ENTRY}
use Rattle.sizes.proofs.SizesProof.{numbers_small}
use Rattle.sweep.specs.Theorems.{sheet_of}
use Rattle.timed.specs.Automaton.{route_of}
use Rattle.timed.specs.Right.{route_short}
use Rattle.timed.specs.Steps.{steps_of}
use Rattle.pieces.specs.declared.Piece.{Piece}
use Rattle.agreement.specs.Behind.{Behind, lists_behind, no_zone, member, pieces_are, piece_is}
use Rattle.agreement.specs.Small.{PiecesSmall}
use Rattle.agreement.specs.Words.{pieces, piece_at}

module _ {file : List ℕ} {n : ℕ} {zs : List cutting.Zone} (b : Behind file n zs) (i : ℕ) (h : i < pieces file n) where
  abbrev zone : cutting.Zone
  zone = get_or zs i no_zone

  abbrev clocks : ℕ
  clocks = (sheet_of file).clocks

  in_place : i < length zs
  in_place = let e = pieces_are b in omega arith

  -- an entry of the sheet's clocks, and one past them
  inside_small : (k l : ℕ) → k ≤ clocks → l ≤ clocks → AtMostB ENTRY (zone.bounds k l)
  unfolding cutting.zones_of cutting.zones_along
  inside_small =
      let well : WellFormed (sheet_of file) = read_well_formed file b.fine in
      let steps = steps_of (sheet_of file) (route_of (sheet_of file)) in
      numbers_small.sheets (sheet_of file) well (route_of (sheet_of file)) (route_short well) steps [] (sym (append-nil steps)) zs
      b.listing zone (member zs i in_place)

  outside_small : (k l : ℕ) → Outside clocks k l → AtMostB ENTRY (zone.bounds k l)
  outside_small k l o =
      let shaped = (zones_shaped (sheet_of file) zs b.listing).1 zone (member zs i in_place) in
      subst (AtMostB ENTRY) (sym (shaped.blank k l o)) (zero_size ENTRY)

  entry_small : (k l : ℕ) → AtMostB ENTRY (zone.bounds k l)
  entry_small k l = by (ltb clocks k) (ltb clocks l) refl refl
    where
      by : (x y : Bool) → ltb clocks k ≡ x → ltb clocks l ≡ y → AtMostB ENTRY (zone.bounds k l)
      by true y e f = outside_small k l (inl (ltb-true clocks k e))
      by false true e f = outside_small k l (inr (ltb-true clocks l f))
      by false false e f = inside_small k l (ltb-false clocks k e) (ltb-false clocks l f)

  piece_small : (k l : ℕ) → k ≤ 4 → l ≤ 4 → AtMostB ENTRY (bound_as (entry_c (piece_at file n i).bounds k l))
  unfolding zone_of
  piece_small k l hk hl =
      subst (λ (x : Bound). AtMostB ENTRY (bound_as x))
      (sym (ap (λ (z : Piece). entry_c z.bounds k l) (piece_is b i h) ∙ entry_at zone.bounds k l hk hl))
      (pad_size ENTRY (zone.bounds k l) (entry_small k l))

pub pieces_small : PiecesSmall
pieces_small file n lists i h = let behind = lists_behind file n lists in piece_small behind.1 i h
