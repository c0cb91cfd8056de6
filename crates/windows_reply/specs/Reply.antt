-- What Windows replies, for every file and every count of places (paper 01, "When no piece is given"), in the paper's numbers: refusal
-- 1, then 2 to 4, 16 and 5, the whole file for each, then 7 or 8, the first met in the order of cutting; else the zones in order, kept
-- and cut.
use Rattle.std.specs.Prelude.{List, [], cond, ℕ, ltb, eqb, length}
use Rattle.std.specs.declared.result.Result.{Result}
use Rattle.answers.specs.Numbers.{numbered, windows_as, counts_of, no_counts}
use Rattle.answers.specs.declared.Numbered.{Numbered}
use Rattle.answers.specs.declared.windows.Refused.{Refused}
use Rattle.answers.specs.declared.windows.Counts.{Counts}
use Rattle.cutting.specs.Cutting.{Zone, Listing, listed, refused, zones_of}
use Rattle.cutting.specs.Kept.{kept_of, cut_of}
use Rattle.expr.specs.Records.{range_list, zero_ranges}
use Rattle.expr.specs.declared.range.Ranges.{Ranges}
use Rattle.reading.specs.File.{Read, read_of}
use Rattle.sheet.specs.declared.Sheet.{Sheet}

-- a reply: the answer's number and place; how many pieces, kept and cut; the ranges that were cut, and the zones (paper: pieces) in order
pub record WindowsReply : Type 0 where
  pub answer : Numbered
  pub counts : Counts
  pub ranges : Ranges
  pub zones : List Zone

-- what the call itself returns of it: the answer's number and place, and the counts
pub record Answered : Type 0 where
  pub answer : Numbered
  pub counts : Counts

abbrev pub answered_of : WindowsReply → Answered
answered_of r = record { answer = r.answer; counts = r.counts }

-- the code's answer for it
abbrev pub answered_as : Result Counts Refused → Answered
answered_as a = record { answer = windows_as a; counts = counts_of a }

-- with a refusal there are no zones, and nothing is counted
abbrev pub refused_reply : Numbered → WindowsReply
refused_reply a = record { answer = a; counts = no_counts; ranges = zero_ranges; zones = [] }

-- the zones that the cutting lists, kept and cut; or its refusal
unfoldable pub listing_reply : Sheet → Listing → WindowsReply
listing_reply s (listed zs) =
    record {
      answer = numbered 0 0;
      counts = record { pieces = length zs; kept = kept_of (range_list s.ranges) zs; cut = cut_of (range_list s.ranges) zs };
      ranges = s.ranges;
      zones = zs;
    }
listing_reply s (refused n visit) = refused_reply (numbered n visit)

unfoldable pub sheet_reply : Sheet → WindowsReply
sheet_reply s = listing_reply s (zones_of s)

-- refusals 2 to 5 and 16, else what follows them
unfoldable pub read_reply : Read → WindowsReply
read_reply r = cond (eqb r.answer.number 0) (sheet_reply r.sheet) (refused_reply r.answer)

-- the whole reply, for a table of so many places
unfoldable pub reply_of : List ℕ → ℕ → WindowsReply
reply_of file places = cond (ltb places 32) (refused_reply (numbered 1 0)) (read_reply (read_of file))
