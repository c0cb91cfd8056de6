-- The proof of Agreement: a piece is a zone of the cutting (Behind), and of zones the theorems of `soundness` and `cutting` speak.
use Rattle.std.specs.Prelude.{◌≡◌, List, true, ℕ, ◌≤◌, ◌<◌, ℤ, length, get_or}
use Rattle.std.proofs.Common.{sym, ap, subst, ◌∙◌, arith}
use Rattle.coded.specs.CodedRead.{entry_coded}
use Rattle.cutting.specs.Cutting as cutting
use Rattle.cutting.proofs.DisjointProof.{zones_apart}
use Rattle.cutting.specs.Held.{holds, at, HeldBy}
use Rattle.expr.specs.Ranges.{Inside}
use Rattle.expr.specs.Records.{range_list}
use Rattle.reading.proofs.Accepted.{read_well_formed}
use Rattle.soundness.specs.TheoremsProof.{matrices_agree, zones_tightest, held_iff_run}
use Rattle.sweep.specs.Proofs.{reply_entry, sweep_right}
use Rattle.sweep.specs.Theorems.{sheet_of}
use Rattle.timed.specs.Runs.{Tightest}
use Rattle.pieces.specs.declared.Piece.{Piece}
use Rattle.agreement.specs.Behind.{Behind, lists_behind, six_outside, no_zone, member, place_of, pieces_are, piece_is, zone_holds}
use Rattle.agreement.specs.Behind.{piece_holds}
use Rattle.agreement.specs.Words.{pieces, piece_at, PieceHolds, entry_with}
use Rattle.agreement.specs.Agreement.{Agreement}

-- ---- Windows' side
module _ {file : List ℕ} {n : ℕ} {zs : List cutting.Zone} (b : Behind file n zs) (v : List ℤ)
    (g : Inside v (range_list (sheet_of file).ranges)) where
  abbrev zone_at : ℕ → cutting.Zone
  zone_at i = get_or zs i no_zone

  zone_there : (i : ℕ) → i < pieces file n → i < length zs
  zone_there i h = let e = pieces_are b in omega arith

  piece_there : (i : ℕ) → i < length zs → i < pieces file n
  piece_there i h = let e = pieces_are b in omega arith

  held_by : (i : ℕ) → i < pieces file n → PieceHolds (piece_at file n i) v → HeldBy v zs
  held_by i h k = record { zone = zone_at i; one_of = member zs i (zone_there i h); held = zone_holds b i h v g k }

  by_held : HeldBy v zs → (i : ℕ) × (i < pieces file n) × PieceHolds (piece_at file n i) v
  by_held h =
      let (i, l, e) = place_of zs h.zone h.one_of in
      let there = piece_there i l in
      (i, there, piece_holds b i there v g (subst (λ (z : cutting.Zone). holds v z ≡ true) (sym e) h.held))

  entry_is : (i : ℕ) → i < pieces file n → (k l : ℕ) → k ≤ 4 → l ≤ 4 → entry_with (piece_at file n i) v k l ≡ at v (zone_at i).bounds k l
  entry_is i h k l hk hl =
      ap (λ (z : Piece). entry_with z v k l) (piece_is b i h) ∙ entry_coded (sheet_of file).ranges (zone_at i) v g k l hk hl

-- ---- both
pub agreement : Agreement
unfolding held_by
agreement file n lists v inside =
    let behind = lists_behind file n lists in
    let zs = behind.0 in
    let b = behind.1 in
    let s = sheet_of file in
    let f = read_well_formed file b.fine in
    let g = six_outside file v b.fine inside in
    let t = sweep_right.right file v b.fine g in
    let runs = held_iff_run s f zs b.listing v g in
    record {
      answered = t.answered;
      one_piece = λ i j hi hj x y.
          zones_apart s zs b.listing v g no_zone i j (zone_there b v g i hi) (zone_there b v g j hj) (zone_holds b i hi v g x)
          (zone_holds b j hj v g y);
      void_iff_none = (
        λ e i h k. t.void_iff_no_run.0 e (runs.0 (held_by b v g i h k)),
        λ none-holds. t.void_iff_no_run.1 (λ run. let (i, h, k) = by_held b v g (runs.1 run) in none-holds i h k),
      );
      void_iff_no_run = t.void_iff_no_run;
      held_iff_run = (λ (i, h, k). runs.0 (held_by b v g i h k), λ run. by_held b v g (runs.1 run));
      entries_equal = λ i h k x y hx hy.
          let d = held_by b v g i h k in
          entry_is b v g i h x y hx hy
          ∙ sym (reply_entry file v b.fine g (at v d.zone.bounds) (matrices_agree s zs b.listing v g d) x y hx hy);
      entries_tightest = λ i h k x y hx hy.
          let d = held_by b v g i h k in
          let hx' : x ≤ 4 = omega (arith, f.clocks) in
          let hy' : y ≤ 4 = omega (arith, f.clocks) in
          subst (Tightest s v x y) (sym (entry_is b v g i h x y hx' hy')) (zones_tightest s f zs b.listing v g d x y hx hy);
    }
