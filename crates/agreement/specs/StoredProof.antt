-- The proofs of Stored: what holds of each zone of the cutting holds of each piece; a refusal has no zones.
use Rattle.std.specs.Prelude.{◌≡◌, refl, List, [], map, Bool, true, false, cond, ℕ, ◌-◌, ◌≤◌, ◌<◌, ltb, eqb, get_or, take}
use Rattle.std.proofs.Common.{sym, subst, ◌∙◌, arith}
use Rattle.std.proofs.Math.Path.{ap}
use Rattle.std.proofs.Math.ListN.{length}
use Rattle.answers.specs.Numbers.{numbered}
use Rattle.coded.specs.Records.{zone_of}
use Rattle.coded.specs.Coded.{taken, entry_at}
use Rattle.constrain.specs.Rules.{entry_c}
use Rattle.cutting.specs.Cutting.{Listing, listed, refused, zones_of}
use Rattle.cutting.specs.Cutting as cutting
use Rattle.cutting.specs.Shape.{Shaped}
use Rattle.cutting.proofs.ShapeProof.{zones_shaped}
use Rattle.dbm.specs.Matrix.{Outside}
use Rattle.expr.specs.Affine.{Affine}
use Rattle.weight.specs.Upper.{Upper}
use Rattle.expr.specs.Records.{expr_of, bound_of, zero_bound, zero_expr}
use Rattle.reading.specs.File.{read_of}
use Rattle.sheet.specs.declared.Sheet.{Sheet}
use Rattle.sweep.specs.Theorems.{sheet_of}
use Rattle.windows_reply.specs.Reply as windows
use Rattle.windows_reply.specs.Reply.{WindowsReply, refused_reply, listing_reply}
use Rattle.pieces.specs.Pieces.{piece_of, blank_piece, table_of}
use Rattle.pieces.specs.Table.{past_list, table_length}
use Rattle.pieces.specs.declared.Piece.{Piece}
use Rattle.agreement.specs.Behind.{Behind, lists_behind, no_zone, member, pieces_are, few_pieces, table_is, piece_is, past_pieces}
use Rattle.agreement.specs.Words.{windows_of, Lists, pieces, table, piece_at}
use Rattle.agreement.specs.Stored.{TableFilled, RefusedBlank}

-- ---- a zone as a piece
module _ (w : ℕ) (z : cutting.Zone) (h : Shaped w z) where
  zone_ineqs : (zone_of z).count ≤ 24
  unfolding zone_of
  zone_ineqs = h.few

  zone_spare : (k : ℕ) → (zone_of z).count ≤ k → get_or (zone_of z).ineqs k zero_expr ≡ zero_expr
  unfolding zone_of
  zone_spare k g = past_list expr_of zero_expr z.ineqs (24 - length z.ineqs) k g

  zone_padding : (k l : ℕ) → k ≤ 4 → l ≤ 4 → Outside w k l → entry_c (zone_of z).bounds k l ≡ zero_bound
  unfolding zone_of
  zone_padding k l hk hl o = entry_at z.bounds k l hk hl ∙ ap (λ (x : Upper Affine). bound_of x) (h.blank k l o)

module _ {file : List ℕ} {n : ℕ} {zs : List cutting.Zone} (b : Behind file n zs) where
  -- what holds of each zone of the sheet holds of each piece
  each_piece : (P : Piece → Type 0) → ((z : cutting.Zone) → Shaped (sheet_of file).clocks z → P (piece_of (sheet_of file).ranges z))
      → (i : ℕ) → i < pieces file n → P (piece_at file n i)
  each_piece P f i h =
      let e = pieces_are b in
      let l : i < length zs = omega arith in
      let z = get_or zs i no_zone in
      subst P (sym (piece_is b i h)) (f z ((zones_shaped (sheet_of file) zs b.listing).1 z (member zs i l)))

  taken_pieces : take (pieces file n) (table file n) ≡ map (piece_of (sheet_of file).ranges) zs
  taken_pieces =
      ap (λ (k : ℕ). take k (table file n)) (pieces_are b) ∙ ap (take (length zs)) (table_is b)
      ∙ taken (piece_of (sheet_of file).ranges) blank_piece (n - length zs) zs

pub table_filled : TableFilled
table_filled file n lists =
    let behind = lists_behind file n lists in
    let zs = behind.0 in
    let b = behind.1 in
    let w = (sheet_of file).clocks in
    record {
      long = table_length file n;
      few = let e = pieces_are b in let h = few_pieces b in omega arith;
      zones = (zs, b.listing, taken_pieces b);
      used = each_piece b (λ z. z.used ≡ true) (λ z f. refl);
      ineqs = each_piece b (λ z. z.count ≤ 24) (zone_ineqs w);
      spare = λ i k h. each_piece b (λ z. z.count ≤ k → get_or z.ineqs k zero_expr ≡ zero_expr) (λ z f. zone_spare w z f k) i h;
      padding = λ i k l h hk hl o. each_piece b (λ z. entry_c z.bounds k l ≡ zero_bound) (λ z f. zone_padding w z f k l hk hl o) i h;
      blank = λ i h g. past_pieces b i h;
    }

-- ---- a refusal
listing_none : (s : Sheet) (o : Listing) → ((listing_reply s o).answer.number ≡ 0 → ⊥) → (listing_reply s o).zones ≡ []
unfolding listing_reply
listing_none s (listed zs) h = absurd (h refl)
listing_none s (refused m visit) h = refl

reply_none : (file : List ℕ) (n : ℕ) → (Lists file n → ⊥) → (windows_of file n).zones ≡ []
unfolding windows.reply_of windows.read_reply windows.sheet_reply
reply_none file n = by (ltb n 32) (eqb (read_of file).answer.number 0)
  where
    reply : Bool → Bool → WindowsReply
    reply b c =
        cond b (refused_reply (numbered 1 0))
        (cond c (listing_reply (sheet_of file) (zones_of (sheet_of file))) (refused_reply (read_of file).answer))

    by : (b c : Bool) → ((reply b c).answer.number ≡ 0 → ⊥) → (reply b c).zones ≡ []
    by true c h = refl
    by false true h = listing_none (sheet_of file) (zones_of (sheet_of file)) h
    by false false h = refl

pub refused_blank : RefusedBlank
unfolding table_of
refused_blank file n h = let e : n - 0 ≡ n = omega arith in rw (reply_none file n h, e) refl
