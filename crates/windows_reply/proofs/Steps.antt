-- The cases of the code's steps, with the branches' tests, and the turns of its loops.
use mathlib.Core.Path.{◌≡◌, refl, sym, ap, ◌∙◌}
use mathlib.Core.List.{List, [], map}
use Prim.Native.Nat.{ℕ, zero, suc, ◌+◌, ◌-◌, ◌*◌, ◌≤◌, ◌<◌, min}
use native.Mathlib.Omega.{arith}
use borrow.Author.Tests.{lt-ltb, le-ltb}
use lib.IntN.{ℤ}
use lib.ListN.{get_or, take}
use Rattle.std.specs.declared.result.Result.{Result}
use Rattle.std.specs.declared.result.Result.TheVariants.{Ok, Err}
use Rattle.std.specs.Prelude.{IsErrAnd}
use Rattle.answers.specs.Numbers.{numbered, refusal_as}
use Rattle.answers.specs.declared.file.Refusal.{Refusal}
use Rattle.answers.specs.declared.file.Refusal.TheVariants.{Size, Contents, Body, Valuations, Route}
use Rattle.answers.specs.declared.windows.Refused.{Refused}
use Rattle.answers.specs.declared.windows.Refused.TheVariants as windows
use Rattle.cells.specs.Cells.{no_cell, rows_from, cells_in}
use Rattle.coded.specs.Records.{zones_in}
use Rattle.inequalities.specs.Flat.{exprs_in, exprs_from}
use Rattle.passing.specs.State.{refused_z}
use Rattle.valuations.specs.SearchLaws.{count_few}
use Rattle.valuations.specs.Valuations.{widths, count}
use Rattle.expr.specs.Records.{affine, range_list}
use Rattle.expr.specs.declared.range.Ranges.{Ranges}
use Rattle.index.specs.SheetIn.{sheet_in}
use Rattle.index.specs.declared.Index.{Index}
use Rattle.indexing.specs.Indexed.{indexed_as}
use Rattle.reading.specs.File.{Read, blank_sheet, read_of}
use Rattle.windows_reply.specs.Reply.{sheet_reply, read_reply, reply_of}
use Rattle.windows_reply.specs.declared.Worked.{Worked}
use Rattle.windows_reply.specs.Work.{shown, shown_of, blank_shown, refused_by, listed_c, zones_at, take_closed}
use Rattle.coded.specs.CodedRead.{kept_c}
use Rattle.kept.specs.Stacks as K
use Rattle.kept.specs.Stacks.{held_in}
use Rattle.windows_route.specs.Ended.{ended_z, ended_refused, ended_listed, rows_there}
use Rattle.windows_route.specs.Places.{zones_from, list_of, list_long}
use Rattle.windows_route.specs.declared.along.Ended.{Ended}
use Rattle.zones.specs.Zone.{blank_zone}

-- ---- the reply
-- the zones' valuations, as `kept` counts them where they stand
kept_from : (b : Ranges) (l : List ℤ) (m ns : List ℕ) (n k p : ℕ) → p + k ≤ 90
    → held_in b (take n (K.zones_from l ns p k)) ≡ kept_c b (take n (zones_from ns (cells_in l m) p k))
unfolding held_in kept_c K.zones_from zones_from
kept_from b l m ns zero k p h = refl
kept_from b l m ns (suc n) zero p h = refl
kept_from b l m ns (suc n) (suc k) p h =
    let e : (get_or (cells_in l m) p no_cell).ineqs ≡ rows_from l (50 * p) 24 = rows_there l m p (omega arith) in
    λ i. count (range_list b) (map affine (take (get_or ns p 0) (sym e i))) + kept_from b l m ns n k (suc p) (omega arith) i

pub kept_is : (b : Ranges) (l : List ℤ) (m ns : List ℕ) (n : ℕ)
    → held_in b (take n (K.zones_in l ns)) ≡ kept_c b (take n (zones_at n l m ns))
kept_is b l m ns n =
    kept_from b l m ns n 32 0 (omega arith)
    ∙ ap (kept_c b) (sym (take_closed blank_zone n 32 (list_of ns (cells_in l m)) (list_long ns (cells_in l m))))

-- all valuations, where the ranges have few
pub all_is : (b : Ranges) (l : List ℤ) (n : ℕ) → n ≡ min (count (range_list b) (exprs_in l 0)) 18446744073709551615
    → widths (range_list b) ≤ 262144 → n ≡ count (range_list b) []
unfolding exprs_from
all_is b l n e h = let k = count_few (range_list b) [] in omega arith

module _ (b : Ranges) (r : Ended) (l : List ℤ) (m ns : List ℕ) where
  pub listed_refused : (a : Refused) → 0 < r.refusal → a ≡ refused_by r.refusal r.visit → blank_shown a ≡ listed_c b (ended_z r l m ns)
  unfolding listed_c
  listed_refused a h e =
      refused_is ∙ ap (listed_c b) (sym (ended_refused r l m ns h))
    where
      refused_is : blank_shown a ≡ listed_c b (refused_z r.refusal r.visit)
      refused_is = rw (lt-ltb 0 r.refusal h, e) refl

  pub listed_zones : (kept all cut : ℕ) → r.refusal ≤ 0 → kept ≡ kept_c b (take r.count (zones_at r.count l m ns))
      → all ≡ count (range_list b) [] → cut ≡ all - kept
      → record {
        answer = numbered 0 0;
        counts = record { pieces = r.count; kept = kept; cut = cut };
        ranges = b;
        pieces = r.count;
        zones = zones_at r.count l m ns;
      }
      ≡ listed_c b (ended_z r l m ns)
  unfolding listed_c
  listed_zones kept all cut h ek ea ec = rw (ec, ea, ek) (ap (listed_c b) (sym (ended_listed r l m ns h)))

-- ---- the whole reply
pub small_reply : (file : List ℕ) (n : ℕ) → n < 32 → blank_shown windows.Small ≡ shown_of (reply_of file n)
unfolding reply_of zones_in
small_reply file n h = rw (lt-ltb n 32 h) refl

module _ (file : List ℕ) where
  -- the sheet of an index, or a refusal, is what is replied to
  pub index_reply : (n : ℕ) (ix : Index) → 32 ≤ n → indexed_as file (Ok ix) ≡ read_of file
      → shown_of (sheet_reply (sheet_in file ix)) ≡ shown_of (reply_of file n)
  unfolding reply_of read_reply
  index_reply n ix l e = rw (le-ltb n 32 l) (ap (λ (x : Read). shown_of (read_reply x)) e)

  refused_as : (r : Refusal) → blank_shown (windows.File r) ≡ shown_of (read_reply (record { answer = refusal_as r; sheet = blank_sheet }))
  unfolding read_reply zones_in
  refused_as Size = refl
  refused_as (Contents at) = refl
  refused_as (Body at) = refl
  refused_as Valuations = refl
  refused_as (Route at) = refl

  -- a refusal of the file goes on
  pub refused_reply_lem : (n : ℕ) (r : Refusal) (a : Result Worked Refused) (l : List ℤ) (m ns : List ℕ) → 32 ≤ n
      → indexed_as file (Err r) ≡ read_of file → IsErrAnd a (λ e. e ≡ windows.File r) → shown a l m ns ≡ shown_of (reply_of file n)
  unfolding reply_of
  refused_reply_lem n r (Ok w) l m ns g e h = absurd h
  refused_reply_lem n r (Err x) l m ns g e h =
      rw (h, le-ltb n 32 g) (refused_as r ∙ ap (λ (y : Read). shown_of (read_reply y)) e)
