-- The reply as the code makes it, on its records.
use Rattle.std.specs.Prelude.{cond, ◌≡◌, refl, List, [], ◌∷◌, ◌++◌, ℕ, zero, suc, ◌-◌, ltb, eqb, ℤ, length, take, replicate}
use Rattle.std.proofs.Common.{ap, arith}
use Rattle.std.specs.declared.result.Result.{Result}
use Rattle.std.specs.declared.result.Result.TheVariants.{Ok, Err}
use Rattle.answers.specs.Numbers.{numbered, cut_refused_as, no_counts}
use Rattle.answers.specs.declared.Numbered.{Numbered}
use Rattle.answers.specs.declared.windows.Refused.{Refused}
use Rattle.answers.specs.declared.windows.Refused.TheVariants as windows
use Rattle.answers.specs.declared.windows.Counts.{Counts}
use Rattle.cells.specs.Cells.{cells_in}
use Rattle.coded.specs.Records.{zones_in}
use Rattle.coded.specs.CodedRead.{kept_c}
use Rattle.expr.specs.Records.{range_list, zero_ranges}
use Rattle.expr.specs.declared.range.Ranges.{Ranges}
use Rattle.valuations.specs.Valuations.{count}
use Rattle.windows_reply.specs.Reply.{WindowsReply}
use Rattle.windows_reply.specs.declared.Worked.{Worked}
use Rattle.windows_route.specs.Places.{list_of}
use Rattle.zones.specs.Zone.{blank_zone}
use Rattle.zones.specs.declared.zone.Zone.{Zone}
use Rattle.zones.specs.declared.zone.Zones.{Zones}

-- what the code works out, its answer in the paper's numbers
pub record Shown : Type 0 where
  pub answer : Numbered
  pub counts : Counts
  pub ranges : Ranges
  pub pieces : ℕ
  pub zones : List Zone

-- the first n zones that stand in lists of numbers, marks and counts, blanks behind them
abbrev pub zones_at : ℕ → List ℤ → List ℕ → List ℕ → List Zone
zones_at n l m ns = take n (list_of ns (cells_in l m)) ++ replicate (32 - n) blank_zone

-- a refusal, which has no zones
abbrev pub blank_shown : Refused → Shown
blank_shown r =
    record { answer = cut_refused_as r; counts = no_counts; ranges = zero_ranges; pieces = 0; zones = replicate 32 blank_zone }

-- what the code works out, or its refusal
abbrev pub shown : Result Worked Refused → List ℤ → List ℕ → List ℕ → Shown
shown (Ok w) l m ns =
    record {
      answer = numbered 0 0;
      counts = w.counts;
      ranges = w.ranges;
      pieces = w.counts.pieces;
      zones = zones_at w.counts.pieces l m ns;
    }
shown (Err r) l m ns = blank_shown r

-- a reply on the code's records
abbrev pub shown_of : WindowsReply → Shown
shown_of r =
    record { answer = r.answer; counts = r.counts; ranges = r.ranges; pieces = length r.zones; zones = zones_in r.zones }

-- refusal 7 or 8 of the cutting
abbrev pub refused_by : ℕ → ℕ → Refused
refused_by n visit = cond (eqb n 7) (windows.Zones visit) (windows.Inequalities visit)

-- the reply for what a route leaves
unfoldable pub listed_c : Ranges → Zones → Shown
listed_c b zs =
    cond (ltb 0 zs.refusal) (blank_shown (refused_by zs.refusal zs.visit))
    (record {
      answer = numbered 0 0;
      counts = record {
        pieces = zs.count;
        kept = kept_c b (take zs.count zs.list);
        cut = count (range_list b) [] - kept_c b (take zs.count zs.list);
      };
      ranges = b;
      pieces = zs.count;
      zones = zs.list;
    })

-- blanks behind the first n of k places do not change these
pub take_closed : {A : Type 0} (x : A) (n k : ℕ) (l : List A) → length l ≡ k → take n (take n l ++ replicate (k - n) x) ≡ take n l
take_closed x zero k l h = refl
take_closed x (suc n) zero [] h =
    let e : zero - suc n ≡ zero = omega arith in
    rw e refl
take_closed x (suc n) (suc k) [] h = absurd (omega arith)
take_closed x (suc n) zero (y ∷ l) h = absurd (omega arith)
take_closed {A = A} x (suc n) (suc k) (y ∷ l) h =
    let e : suc k - suc n ≡ k - n = omega arith in
    rw e (ap (λ (r : List A). y ∷ r) (take_closed x n k l (omega arith)))
