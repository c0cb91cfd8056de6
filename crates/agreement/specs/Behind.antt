-- What stands behind a reply that lists pieces: the zones of the cutting in order, each in its place of the table.
use Rattle.std.specs.Prelude.{◌≡◌, ◌⊎◌, Bool, true, false, cond, ℕ, zero, suc, ◌-◌, ◌≤◌, ◌<◌, ltb, eqb, ℤ, length, get_or, replicate}
use Rattle.std.proofs.Math.Path.{refl}
use Rattle.std.proofs.Common.{sym, ap, subst, ◌∙◌, inl, inr, arith, ltb-false, eqb-true}
use mathlib.Core.List.Memᴰ
use mathlib.Core.List.{List, [], ◌∷◌, ◌++◌, map, Memᴰ}
use Rattle.std.proofs.Math.Option.{Option, none, some}
use Rattle.std.proofs.lemmas.Bool.{eqb-false}
use Rattle.answers.specs.Numbers.{numbered}
use Rattle.cutting.specs.Cutting.{Listing, listed, refused, start_b, zones_of}
use Rattle.cutting.specs.Cutting as cutting
use Rattle.coded.specs.CodedRead.{holds_coded}
use Rattle.cutting.specs.Held.{InRanges, holds}
use Rattle.cutting.proofs.NumberedProof.{some_number, zones_numbered}
use Rattle.cutting.proofs.ShapeProof.{zones_shaped}
use Rattle.expr.specs.Ranges.{Inside}
use Rattle.expr.specs.Records.{range_list}
use Rattle.reading.specs.File.{Fine, read_of}
use Rattle.sheet.specs.declared.Sheet.{Sheet}
use Rattle.sweep.specs.Reply.{SweepReply, blank_reply, outside, sheet_reply, read_reply, reply_of}
use Rattle.sweep.specs.ReplyLaws.{outside_none}
use Rattle.sweep.specs.Theorems.{sheet_of}
use Rattle.windows_reply.specs.Reply as windows
use Rattle.windows_reply.specs.Reply.{WindowsReply, refused_reply, listing_reply}
use Rattle.pieces.specs.Pieces.{piece_of, blank_piece, table_of}
use Rattle.pieces.specs.Table.{in_list, past_list}
use Rattle.pieces.specs.declared.Piece.{Piece}
use Rattle.agreement.specs.Words.{windows_of, Lists, listed_reply, pieces, table, piece_at, InRange, PieceHolds}

pub record Behind (file : List ℕ) (n : ℕ) (zs : List cutting.Zone) : Type 0 where
  pub room : 32 ≤ n
  pub fine : Fine (read_of file)
  pub listing : zones_of (sheet_of file) ≡ listed zs
  pub reply : windows_of file n ≡ listed_reply (sheet_of file) zs

-- a listing whose reply has the number 0
listing_behind : (s : Sheet) (o : Listing) → zones_of s ≡ o → (listing_reply s o).answer.number ≡ 0
    → (zs : List cutting.Zone) × (o ≡ listed zs)
    × (listing_reply s o ≡ listed_reply s zs)
unfolding listing_reply
listing_behind s (listed zs) e g = (zs, refl, refl)
listing_behind s (refused m visit) e g = let h = some_number m (zones_numbered s m visit e) in absurd (omega arith)

pub lists_behind : (file : List ℕ) (n : ℕ) → Lists file n → (zs : List cutting.Zone) × Behind file n zs
unfolding windows.reply_of windows.read_reply windows.sheet_reply
lists_behind file n lists = by (ltb n 32) (eqb (read_of file).answer.number 0) refl refl lists
  where
    s : Sheet
    s = sheet_of file

    reply : Bool → Bool → WindowsReply
    reply b c = cond b (refused_reply (numbered 1 0)) (cond c (listing_reply s (zones_of s)) (refused_reply (read_of file).answer))

    by : (b c : Bool) → ltb n 32 ≡ b → eqb (read_of file).answer.number 0 ≡ c → (reply b c).answer.number ≡ 0
        → (zs : List cutting.Zone) × Behind file n zs
    by true c h k g = absurd (omega arith)
    by false true h k g =
        let (zs, e, r) = listing_behind s (zones_of s) refl g in
        (zs, record { room = ltb-false n 32 h; fine = eqb-true _ 0 k; listing = e; reply = rw (h, k) r })
    by false false h k g = absurd (eqb-false _ 0 k g)

-- ---- refusal 6 and the ranges
six_reply : (file : List ℕ) (v : List ℤ) (k : ℕ) → Fine (read_of file) → outside 0 (range_list (sheet_of file).ranges) v ≡ some k
    → reply_of file v ≡ blank_reply (numbered 6 k)
unfolding reply_of read_reply sheet_reply
six_reply file v k f e = rw (f, e) refl

six_number : (k : ℕ) → (blank_reply (numbered 6 k)).answer.number ≡ 6
unfolding blank_reply
six_number k = refl

pub six_outside : (file : List ℕ) (v : List ℤ) → Fine (read_of file) → InRange file v → Inside v (range_list (sheet_of file).ranges)
six_outside file v f i = by (outside 0 (range_list (sheet_of file).ranges) v) refl
  where
    by : (o : Option ℕ) → outside 0 (range_list (sheet_of file).ranges) v ≡ o → Inside v (range_list (sheet_of file).ranges)
    by none e = outside_none 0 (range_list (sheet_of file).ranges) v e
    by (some k) e = absurd (i (ap (λ (r : SweepReply). r.answer.number) (six_reply file v k f e) ∙ six_number k))

-- ---- places of the table
-- the zone that is read past the cutting's list
abbrev pub no_zone : cutting.Zone
no_zone = record { ineqs = []; bounds = start_b }

-- a place of the list has one of its zones, and each of them has a place
pub member : (zs : List cutting.Zone) (i : ℕ) → i < length zs → Memᴰ (get_or zs i no_zone) zs
member [] i h = absurd (omega arith)
member (z ∷ zs) zero h = Memᴰ.head refl
member (z ∷ zs) (suc i) h = Memᴰ.tail (member zs i (omega arith))

pub place_of : (zs : List cutting.Zone) (z : cutting.Zone) → Memᴰ z zs → (i : ℕ) × (i < length zs) × (get_or zs i no_zone ≡ z)
place_of [] z m = absurd (Memᴰ.not-nil m)
place_of (y ∷ zs) z m = by (Memᴰ.cases_cons m) (place_of zs z)
  where
    by : (z ≡ y) ⊎ Memᴰ z zs → (Memᴰ z zs → (i : ℕ) × (i < length zs) × (get_or zs i no_zone ≡ z))
        → (i : ℕ) × (i < length (y ∷ zs)) × (get_or (y ∷ zs) i no_zone ≡ z)
    by (inl e) ih = (0, omega arith, sym e)
    by (inr k) ih = let (i, h, e) = ih k in (suc i, omega arith, e)

module _ {file : List ℕ} {n : ℕ} {zs : List cutting.Zone} (b : Behind file n zs) where
  -- as many pieces as zones
  pub pieces_are : pieces file n ≡ length zs
  pieces_are = ap (λ (r : WindowsReply). r.counts.pieces) b.reply

  pub few_pieces : length zs ≤ 32
  few_pieces = (zones_shaped (sheet_of file) zs b.listing).0

  -- the table: the pieces of the zones in order, and blanks past them
  pub table_is : table file n ≡ map (piece_of (sheet_of file).ranges) zs ++ replicate (n - length zs) blank_piece
  unfolding table_of
  table_is = rw b.reply refl

  -- piece i is that of zone i
  pub piece_is : (i : ℕ) → i < pieces file n → piece_at file n i ≡ piece_of (sheet_of file).ranges (get_or zs i no_zone)
  piece_is i h =
      let e = pieces_are in
      let l : i < length zs = omega arith in
      ap (λ (t : List Piece). get_or t i blank_piece) table_is
      ∙ in_list (piece_of (sheet_of file).ranges) blank_piece zs (replicate (n - length zs) blank_piece) no_zone i l

  -- it holds what the zone holds
  pub zone_holds : (i : ℕ) → i < pieces file n → (v : List ℤ) → InRanges (sheet_of file) v → PieceHolds (piece_at file n i) v
      → holds v (get_or zs i no_zone) ≡ true
  zone_holds i h v g k =
      sym (holds_coded (sheet_of file).ranges (get_or zs i no_zone) v g) ∙ subst (λ (z : Piece). PieceHolds z v) (piece_is i h) k

  pub piece_holds : (i : ℕ) → i < pieces file n → (v : List ℤ) → InRanges (sheet_of file) v → holds v (get_or zs i no_zone) ≡ true
      → PieceHolds (piece_at file n i) v
  piece_holds i h v g k =
      subst (λ (z : Piece). PieceHolds z v) (sym (piece_is i h)) (holds_coded (sheet_of file).ranges (get_or zs i no_zone) v g ∙ k)

  -- the places past the pieces are blank
  pub past_pieces : (i : ℕ) → pieces file n ≤ i → piece_at file n i ≡ blank_piece
  past_pieces i h =
      let e = pieces_are in
      let l : length zs ≤ i = omega arith in
      ap (λ (t : List Piece). get_or t i blank_piece) table_is
      ∙ past_list (piece_of (sheet_of file).ranges) blank_piece zs (n - length zs) i l
