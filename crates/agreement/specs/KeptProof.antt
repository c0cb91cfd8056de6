-- The proof of Kept: the counts of `soundness` over the valuations of the ranges.
use Rattle.std.specs.Prelude.{◌↔◌, ◌⊎◌, ℕ, ℤ}
use Rattle.std.proofs.Common.{inl, inr, arith}
use mathlib.Core.List.{List, Memᴰ}
use Rattle.expr.specs.Records.{range_list}
use Rattle.valuations.specs.Once.{valuations_once}
use Rattle.valuations.specs.SearchLaws.{valuations_inside, valuations_all}
use Rattle.reading.specs.File.{Fine, read_of}
use Rattle.reading.proofs.Accepted.{read_well_formed}
use Rattle.soundness.specs.CountsProof.{kept_counts_runs, cut_counts_the_rest, kept_and_cut}
use Rattle.sweep.specs.Proofs.{sweep_right}
use Rattle.sweep.specs.Theorems.{sheet_of, IsRun, IsVoid}
use Rattle.agreement.specs.Behind.{lists_behind, six_outside}
use Rattle.agreement.specs.Words.{InRange}
use Rattle.agreement.specs.Kept.{valuations_of, KeptCounts}

-- what Sweep answers by a run or void, 6 doesn't refuse
pub answered_inside : (file : List ℕ) (v : List ℤ) → IsRun file v ⊎ IsVoid file v → InRange file v
answered_inside file v (inl e) g = omega arith
answered_inside file v (inr e) g = omega arith

counted_those : (file : List ℕ) → Fine (read_of file) → (v : List ℤ) → Memᴰ v (valuations_of file) ↔ InRange file v
counted_those file f v =
    let rs = range_list (sheet_of file).ranges in (
      λ m. answered_inside file v (sweep_right.right file v f (valuations_inside rs v m)).answered,
      λ i. valuations_all rs v (six_outside file v f i),
    )

pub kept_counts : KeptCounts
kept_counts file n lists =
    let behind = lists_behind file n lists in
    let zs = behind.0 in
    let b = behind.1 in
    let s = sheet_of file in
    let f = read_well_formed file b.fine in
    let k = kept_counts_runs s f zs b.listing in
    let d = cut_counts_the_rest s f zs b.listing in
    record {
      those = counted_those file b.fine;
      once = valuations_once (range_list s.ranges);
      kept = rw b.reply k;
      cut = rw b.reply d;
      together = rw b.reply (kept_and_cut s f zs b.listing);
    }
