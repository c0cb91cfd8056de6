-- What the code stores, place by place, is the table of Pieces: the pieces in order, and blanks behind them.
use Rattle.std.specs.Prelude.{◌≡◌, refl, List, [], ◌∷◌, ◌++◌, map, Bool, cond, ℕ, zero, suc, ◌-◌, ◌≤◌, ◌<◌, min, ltb, eqb, ℤ, get_or, take, replicate}
use Rattle.std.proofs.Common.{sym, ◌∙◌, arith, length-take, get_or-take, ext_get_or}
use Rattle.std.proofs.Math.Path.{ap}
use Rattle.std.proofs.Math.Bool.{true, false}
use borrow.Author.Tests.{lt-ltb, le-ltb, ltb-true, ltb-false}
use Rattle.std.proofs.Math.ListN.{length, length-append, length-map, length-replicate, get_or-append}
use Rattle.std.proofs.Math.Seq.{get_or-append_seam}
use Rattle.cells.specs.Cells.{cells_in}
use Rattle.steps.specs.Steps.{no_zone}
use Rattle.coded.specs.Records.{zone_of, zones_in}
use Rattle.coded.specs.Coded.{taken}
use Rattle.coded.specs.CodedRead.{first_coded}
use Rattle.cutting.specs.Cutting.{Listing, listed, refused, zones_of}
use Rattle.cutting.specs.Cutting as cutting
use Rattle.cutting.specs.FirstHeld.{first_held}
use Rattle.std.specs.declared.result.Result.TheVariants.{Ok, Err}
use Rattle.answers.specs.Numbers.{numbered}
use Rattle.answers.specs.declared.windows.Refused.{Refused}
use Rattle.expr.specs.Records.{affine, range_list, valuation_of}
use Rattle.expr.specs.declared.range.Ranges.{Ranges}
use Rattle.valuations.specs.Valuations.{first, numbers_in}
use Rattle.cutting.proofs.ShapeProof.{zones_shaped}
use Rattle.sheet.specs.declared.Sheet.{Sheet}
use Rattle.reading.specs.File.{read_of}
use Rattle.windows_reply.specs.Reply.{WindowsReply, answered_of, answered_as, refused_reply, listing_reply, sheet_reply, read_reply, reply_of}
use Rattle.pieces.specs.Pieces.{piece_of, blank_piece, table_of}
use Rattle.windows_reply.specs.Work.{Shown, shown, shown_of, blank_shown, take_closed}
use Rattle.windows_route.specs.Places.{list_of, list_long}
use Rattle.windows_reply.specs.declared.Worked.{Worked}
use Rattle.pieces.specs.declared.Piece.{Piece}
use Rattle.zones.specs.Zone.{blank_zone}
use Rattle.zones.specs.declared.zone.Zone.{Zone}

-- the piece of a zone of the code
abbrev pub piece_in : Ranges → Zone → Piece
piece_in b z =
    record {
      used = true;
      first = valuation_of (numbers_in (first (range_list b) (map affine (take z.count z.ineqs))));
      count = z.count;
      ineqs = z.ineqs;
      bounds = z.bounds;
    }

-- the item for place i of a table with so many pieces: the piece of this zone, or a blank one where i is past them
unfoldable pub item_for : Ranges → ℕ → ℕ → Zone → Piece
item_for b pieces i z = cond (ltb i (min pieces 32)) (piece_in b z) blank_piece

-- what is worked out: the ranges that were cut, how many pieces, and zones, of which the first are theirs
pub record Work : Type 0 where
  pub ranges : Ranges
  pub pieces : ℕ
  pub zones : List Zone

-- with the zones that stand in lists of numbers, marks and counts
abbrev pub work_in : Ranges → ℕ → List ℤ → List ℕ → List ℕ → Work
work_in b pieces l m ns = record { ranges = b; pieces = pieces; zones = list_of ns (cells_in l m) }

-- the item at place i of the table: the piece of the zone worked out for it, or a blank one
unfoldable pub item_of : Work → ℕ → Piece
item_of work i = cond (ltb i (min work.pieces 32)) (piece_in work.ranges (get_or work.zones i no_zone)) blank_piece

-- the items at the first n places
unfoldable pub items_of : Work → ℕ → List Piece
items_of work zero = []
items_of work (suc n) = items_of work n ++ (item_of work n ∷ [])

-- ---- places of the list
pub items_length : (work : Work) (n : ℕ) → length (items_of work n) ≡ n
unfolding items_of
items_length work zero = refl
items_length work (suc n) = let a = length-append (items_of work n) (item_of work n ∷ []) in let b = items_length work n in omega arith

pub items_at : (work : Work) (n i : ℕ) → i < n → get_or (items_of work n) i blank_piece ≡ item_of work i
unfolding items_of
items_at work zero i h = absurd (omega arith)
items_at work (suc n) i h = by (ltb i n) refl (items_at work n i)
  where
    items : List Piece
    items = items_of work n

    by : (b : Bool) → ltb i n ≡ b → (i < n → get_or items i blank_piece ≡ item_of work i)
        → get_or (items ++ (item_of work n ∷ [])) i blank_piece ≡ item_of work i
    by true e ih =
        let k = ltb-true i n e in
        let l : i < length items = rw (items_length work n) k in
        get_or-append items (item_of work n ∷ []) blank_piece i l ∙ ih k
    by false e ih =
        let k = ltb-false i n e in
        let l : length items ≡ n = items_length work n in
        let j : i ≡ length items = omega arith in
        let j' : n ≡ i = omega arith in
        ap (λ (x : ℕ). get_or (items ++ (item_of work n ∷ [])) x blank_piece) j ∙ get_or-append_seam items (item_of work n) [] blank_piece
        ∙ ap (item_of work) j'

-- an element of a list, or a blank past it
module _ {A B : Type 0} (f : A → B) (blank : B) where
  pub in_list : (l : List A) (r : List B) (d : A) (i : ℕ) → i < length l → get_or (map f l ++ r) i blank ≡ f (get_or l i d)
  in_list [] r d i h = absurd (omega arith)
  in_list (x ∷ l) r d zero h = refl
  in_list (x ∷ l) r d (suc i) h = in_list l r d i (omega arith)

  blanks : (k i : ℕ) → get_or (replicate k blank) i blank ≡ blank
  blanks zero i = refl
  blanks (suc k) zero = refl
  blanks (suc k) (suc i) = blanks k i

  pub past_list : (l : List A) (k i : ℕ) → length l ≤ i → get_or (map f l ++ replicate k blank) i blank ≡ blank
  past_list [] k i h = blanks k i
  past_list (x ∷ l) k zero h = absurd (omega arith)
  past_list (x ∷ l) k (suc i) h = past_list l k i (omega arith)

-- ---- the table
-- the places that the code fills, and blanks
unfoldable places_of : Work → ℕ → List Piece
places_of work n = map (piece_in work.ranges) (take work.pieces work.zones) ++ replicate (n - work.pieces) blank_piece

-- as many zones as are listed, and a place for each
record Fits (work : Work) (n : ℕ) : Type 0 where
  long : length work.zones ≡ 32
  few : work.pieces ≤ 32
  room : work.pieces ≤ n

module _ (work : Work) (n : ℕ) (f : Fits work n) where
  abbrev zones : List Zone
  zones = take work.pieces work.zones

  abbrev piece : Zone → Piece
  piece = piece_in work.ranges

  zones_long : length zones ≡ work.pieces
  zones_long = let a = length-take work.pieces work.zones in omega (arith, f.long, f.few)

  table_long : length (places_of work n) ≡ n
  unfolding places_of
  table_long =
      let a = length-append (map piece zones) (replicate (n - work.pieces) blank_piece) in
      let b : length (map piece zones) ≡ work.pieces = length-map zones piece ∙ zones_long in
      let c = length-replicate (n - work.pieces) blank_piece in
      omega (arith, f.room)

  at_place : (i : ℕ) → (b : Bool) → ltb i work.pieces ≡ b → item_of work i ≡ get_or (places_of work n) i blank_piece
  unfolding item_of places_of
  at_place i true e =
      let h = ltb-true i work.pieces e in
      let l : i < length zones = rw zones_long h in
      rw (lt-ltb i (min work.pieces 32) (omega (arith, f.few)))
      (sym (in_list piece blank_piece zones (replicate (n - work.pieces) blank_piece) no_zone i l
      ∙ ap piece (get_or-take work.pieces work.zones i no_zone h)))
  at_place i false e =
      let h = ltb-false i work.pieces e in
      let l : length zones ≤ i = rw zones_long h in
      rw (le-ltb i (min work.pieces 32) (omega arith)) (sym (past_list piece blank_piece zones (n - work.pieces) i l))

  items_table : items_of work n ≡ places_of work n
  items_table =
      ext_get_or blank_piece (items_of work n) (places_of work n) (items_length work n ∙ sym table_long) (λ i h.
      let k : i < n = rw (items_length work n) at h in
      items_at work n i k ∙ at_place i (ltb i work.pieces) refl)

-- ---- what is worked out fits
-- a reply has at most 32 zones, and no more than the table has places
abbrev Few : WindowsReply → ℕ → Type 0
Few r n = (length r.zones ≤ 32) × (length r.zones ≤ n)

listing_few : (s : Sheet) (n : ℕ) → 32 ≤ n → (o : Listing) → zones_of s ≡ o → Few (listing_reply s o) n
unfolding listing_reply
listing_few s n h (listed zs) e = let few = (zones_shaped s zs e).0 in (few, omega arith)
listing_few s n h (refused m visit) e = (omega arith, omega arith)

reply_few : (file : List ℕ) (n : ℕ) → Few (reply_of file n) n
unfolding reply_of read_reply sheet_reply
reply_few file n = by (ltb n 32) (eqb (read_of file).answer.number 0) refl
  where
    s : Sheet
    s = (read_of file).sheet

    by : (b c : Bool) → ltb n 32 ≡ b
        → Few (cond b (refused_reply (numbered 1 0)) (cond c (listing_reply s (zones_of s)) (refused_reply (read_of file).answer))) n
    by true c h = (omega arith, omega arith)
    by false true h = listing_few s n (ltb-false n 32 h) (zones_of s) refl
    by false false h = (omega arith, omega arith)

work_fits : (w : Worked) (l : List ℤ) (m ns : List ℕ) (r : WindowsReply) (n : ℕ) → shown (Ok w) l m ns ≡ shown_of r → Few r n
    → Fits (work_in w.ranges w.counts.pieces l m ns) n
work_fits w l m ns r n e f =
    let p = ap (λ (x : Shown). x.pieces) e in
    record { long = list_long ns (cells_in l m); few = omega (arith, f.0); room = omega (arith, f.1) }

piece_coded : (b : Ranges) (z : cutting.Zone) → piece_in b (zone_of z) ≡ piece_of b z
unfolding first_held
piece_coded b z = rw (first_coded b z) refl

map_pieces : (b : Ranges) (zs : List cutting.Zone) → map (piece_in b) (map zone_of zs) ≡ map (piece_of b) zs
map_pieces b [] = refl
map_pieces b (z ∷ zs) = rw (piece_coded b z, map_pieces b zs) refl

-- the zones at the first places are the reply's
zones_there : (w : Worked) (l : List ℤ) (m ns : List ℕ) (r : WindowsReply) → shown (Ok w) l m ns ≡ shown_of r
    → take w.counts.pieces (list_of ns (cells_in l m)) ≡ map zone_of r.zones
unfolding zones_in
zones_there w l m ns r e =
    let p : w.counts.pieces ≡ length r.zones = ap (λ (x : Shown). x.pieces) e in
    sym (take_closed blank_zone w.counts.pieces 32 (list_of ns (cells_in l m)) (list_long ns (cells_in l m)))
    ∙ ap (λ (x : Shown). take w.counts.pieces x.zones) e
    ∙ ap (λ (k : ℕ). take k (zones_in r.zones)) p
    ∙ taken zone_of blank_zone (32 - length r.zones) r.zones

places_table : (w : Worked) (l : List ℤ) (m ns : List ℕ) (r : WindowsReply) (n : ℕ) → shown (Ok w) l m ns ≡ shown_of r
    → places_of (work_in w.ranges w.counts.pieces l m ns) n ≡ table_of r n
unfolding places_of table_of
places_table w l m ns r n e =
    let p : w.counts.pieces ≡ length r.zones = ap (λ (x : Shown). x.pieces) e in
    let b : w.ranges ≡ r.ranges = ap (λ (x : Shown). x.ranges) e in
    (λ i. map (piece_in (b i)) (zones_there w l m ns r e i) ++ replicate (n - p i) blank_piece)
    ∙ ap (λ (k : List Piece). k ++ replicate (n - length r.zones) blank_piece) (map_pieces r.ranges r.zones)

-- the items that are stored are the table
pub work_table : (file : List ℕ) (n : ℕ) (w : Worked) (l : List ℤ) (m ns : List ℕ) → shown (Ok w) l m ns ≡ shown_of (reply_of file n)
    → items_of (work_in w.ranges w.counts.pieces l m ns) n ≡ table_of (reply_of file n) n
work_table file n w l m ns e =
    items_table (work_in w.ranges w.counts.pieces l m ns) n (work_fits w l m ns (reply_of file n) n e (reply_few file n))
    ∙ places_table w l m ns (reply_of file n) n e

pub table_length : (file : List ℕ) (n : ℕ) → length (table_of (reply_of file n) n) ≡ n
unfolding table_of
table_length file n =
    let zs = (reply_of file n).zones in
    let piece = piece_of (reply_of file n).ranges in
    let a = length-append (map piece zs) (replicate (n - length zs) blank_piece) in
    let b = length-map zs piece in
    let c = length-replicate (n - length zs) blank_piece in
    omega (arith, (reply_few file n).1)

-- with a refusal there are blanks alone
pub refused_table : (file : List ℕ) (n : ℕ) (r : Refused) → blank_shown r ≡ shown_of (reply_of file n)
    → replicate n blank_piece ≡ table_of (reply_of file n) n
unfolding table_of
refused_table file n r e = by (reply_of file n).zones (ap (λ (x : Shown). x.pieces) e)
  where
    by : (zs : List cutting.Zone) → 0 ≡ length zs
        → replicate n blank_piece ≡ map (piece_of (reply_of file n).ranges) zs ++ replicate (n - length zs) blank_piece
    by [] h = let e : n - 0 ≡ n = omega arith in rw e refl
    by (z ∷ zs) h = absurd (omega arith)

-- what the code answers is the reply's
pub work_answer : (r : WindowsReply) (w : Worked) (l : List ℤ) (m ns : List ℕ) → shown (Ok w) l m ns ≡ shown_of r
    → answered_as (Ok w.counts) ≡ answered_of r
work_answer r w l m ns e = ap (λ (x : Shown). record { answer = x.answer; counts = x.counts }) e

pub refused_answer : (r : WindowsReply) (x : Refused) → blank_shown x ≡ shown_of r → answered_as (Err x) ≡ answered_of r
refused_answer r x e = ap (λ (x : Shown). record { answer = x.answer; counts = x.counts }) e
