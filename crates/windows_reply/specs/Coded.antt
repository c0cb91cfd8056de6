-- What the code replies for an accepted sheet is Windows' reply.
use Rattle.std.specs.Prelude.{◌≡◌, refl, ℕ}
use Rattle.std.proofs.Common.{ap, ◌∙◌, inl, inr, lt-ltb}
use Rattle.cutting.specs.Cutting.{Listing, listed, refused, zones_of, SevenOrEight}
use Rattle.cutting.proofs.NumberedProof.{some_number, zones_numbered}
use Rattle.valuations.specs.SearchLaws.{count_all}
use Rattle.expr.specs.Records.{range_list}
use Rattle.sheet.specs.declared.Sheet.{Sheet}
use Rattle.sheet.specs.WellFormed.{WellFormed}
use Rattle.answers.specs.Numbers.{numbered, cut_refused_as}
use Rattle.windows_reply.specs.Reply.{listing_reply, sheet_reply}
use Rattle.windows_reply.specs.Work.{shown_of, refused_by, listed_c}
use Rattle.coded.specs.Records.{coded, zones_in}
use Rattle.coded.specs.CodedRead.{kept_in}
use Rattle.coded.specs.CodedWalk.{zones_coded}
use Rattle.segments.specs.Walked.{zones_all}
use Rattle.zones.specs.declared.zone.Zones.{Zones}

-- ---- the reply
refused_coded : (n k : ℕ) → SevenOrEight n → cut_refused_as (refused_by n k) ≡ numbered n k
refused_coded n k (inl e) = rw e refl
refused_coded n k (inr e) = rw e refl

listing_coded : (s : Sheet) (o : Listing) → ((n k : ℕ) → o ≡ refused n k → SevenOrEight n)
    → listed_c s.ranges (coded s.moves o) ≡ shown_of (listing_reply s o)
unfolding listed_c coded listing_reply zones_in
listing_coded s (listed zs) h = rw (kept_in s.ranges zs, count_all (range_list s.ranges)) refl
listing_coded s (refused n k) h =
    let g = h n k refl in
    rw (lt-ltb 0 n (some_number n g), refused_coded n k g) refl

pub work_coded : (s : Sheet) → WellFormed s → (zs : Zones) → zs ≡ zones_all s → listed_c s.ranges zs ≡ shown_of (sheet_reply s)
unfolding sheet_reply
work_coded s f zs e =
    ap (listed_c s.ranges) (e ∙ zones_coded s f) ∙ listing_coded s (zones_of s) (λ n k q. zones_numbered s n k q)
