-- The proof of Counts: the zones that hold a valuation are one where it has a run and none where it has not (Along), counted over the
-- valuations of the ranges.
use Rattle.std.specs.Prelude.{◌≡◌, refl, Bool, true, false, cond, ℕ, suc, ◌+◌, ◌-◌, ◌≤◌, ℤ, length}
use Rattle.std.proofs.Common.{sym, ap, subst, ◌∙◌, arith}
use mathlib.Core.List.{List, [], ◌∷◌, Memᴰ}
use Rattle.dbm.specs.Matrix.{Outcome, void, kept}
use Rattle.valuations.specs.SearchLaws.{valuations_inside, valuations_length}
use Rattle.valuations.specs.Valuations.{widths, valuations, satisfies, count_in, count}
use Rattle.expr.specs.Records.{range_list}
use Rattle.expr.specs.declared.range.Range.{Range}
use Rattle.sheet.specs.declared.Sheet.{Sheet}
use Rattle.sheet.specs.WellFormed.{WellFormed}
use Rattle.concrete.specs.Proofs.{along_right}
use Rattle.concrete.specs.Walk.{sweep_along}
use Rattle.timed.specs.Automaton.{route_of}
use Rattle.timed.specs.Runs.{Run, RunAlong}
use Rattle.soundness.specs.Along.{found_held, along_found, along_held}
use Rattle.soundness.specs.Counts.{KeptCountsRuns, CutCountsTheRest, KeptAndCut}
use Rattle.cutting.specs.Cutting.{Zone, listed, zones_along, zones_of}
use Rattle.cutting.specs.Held.{InRanges, holds, at, found, list_of}
use Rattle.cutting.specs.Kept.{Counted, nil, has, lacks, kept_of}

unfoldable tally : List (List ℤ) → List Zone → ℕ
tally vs [] = 0
tally vs (z ∷ zs) = count_in (satisfies z.ineqs) vs + tally vs zs

tally_kept : (rs : List Range) (zs : List Zone) → kept_of rs zs ≡ tally (valuations rs) zs
unfolding kept_of tally count
tally_kept rs [] = refl
tally_kept rs (z ∷ zs) = ap (λ (n : ℕ). count rs z.ineqs + n) (tally_kept rs zs)

tally_none : (zs : List Zone) → tally [] zs ≡ 0
unfolding tally count_in
tally_none [] = refl
tally_none (z ∷ zs) = let h = tally_none zs in omega arith

tally_step : (v : List ℤ) (vs : List (List ℤ)) (zs : List Zone) → tally (v ∷ vs) zs ≡ length (found v zs) + tally vs zs
unfolding tally count_in found
tally_step v vs [] = refl
tally_step v vs (z ∷ zs) = by (holds v z) (tally_step v vs zs)
  where
    by : (b : Bool) → tally (v ∷ vs) zs ≡ length (found v zs) + tally vs zs
        → cond b (suc (count_in (satisfies z.ineqs) vs)) (count_in (satisfies z.ineqs) vs) + tally (v ∷ vs) zs
        ≡ length (cond b (at v z.bounds ∷ found v zs) (found v zs)) + (count_in (satisfies z.ineqs) vs + tally vs zs)
    by true ih = omega arith
    by false ih = omega arith

module _ (s : Sheet) (f : WellFormed s) (route : List ℕ) (zs : List Zone) (q : zones_along s route ≡ listed zs) where
  tally_counted : (vs : List (List ℤ)) → ((v : List ℤ) → Memᴰ v vs → InRanges s v) → Counted (RunAlong s route) vs (tally vs zs)
  tally_counted [] h = subst (Counted (RunAlong s route) []) (sym (tally_none zs)) nil
  tally_counted (v ∷ vs) h = subst (Counted (RunAlong s route) (v ∷ vs)) (sym (tally_step v vs zs))
      (by (sweep_along s route v) refl (tally_counted vs (λ u i. h u (Memᴰ.tail i))))
    where
      in_ranges : InRanges s v
      in_ranges = h v (Memᴰ.head refl)

      by : (o : Outcome) → sweep_along s route v ≡ o → Counted (RunAlong s route) vs (tally vs zs)
          → Counted (RunAlong s route) (v ∷ vs) (length (found v zs) + tally vs zs)
      by void e c =
          let k : found v zs ≡ [] = along_found s route zs q v in_ranges ∙ ap list_of e in
          let l : length (found v zs) ≡ 0 = ap length k in
          let n : tally vs zs ≡ length (found v zs) + tally vs zs = omega arith in
          subst (Counted (RunAlong s route) (v ∷ vs)) n (lacks ((along_right s f route v).0.0 e) c)
      by (kept m) e c =
          let k : found v zs ≡ m ∷ [] = along_found s route zs q v in_ranges ∙ ap list_of e in
          let l : length (found v zs) ≡ 1 = ap length k in
          let n : suc (tally vs zs) ≡ length (found v zs) + tally vs zs = omega arith in
          subst (Counted (RunAlong s route) (v ∷ vs)) n
          (has ((along_held s route zs q v in_ranges f).0 (found_held v zs m [] k)) c)

  -- along any route
  pub along_counts_runs : Counted (RunAlong s route) (valuations (range_list s.ranges)) (kept_of (range_list s.ranges) zs)
  along_counts_runs =
      subst (Counted (RunAlong s route) (valuations (range_list s.ranges))) (sym (tally_kept (range_list s.ranges) zs))
      (tally_counted (valuations (range_list s.ranges)) (valuations_inside (range_list s.ranges)))

pub kept_counts_runs : KeptCountsRuns
unfolding zones_of
kept_counts_runs s f zs q = along_counts_runs s f (route_of s) zs q

counted_length : {P : List ℤ → Type 0} {vs : List (List ℤ)} {n : ℕ} → Counted P vs n → n ≤ length vs
counted_length nil = omega arith
counted_length (has p c) = let h = counted_length c in omega arith
counted_length (lacks p c) = let h = counted_length c in omega arith

others : {P : List ℤ → Type 0} {vs : List (List ℤ)} {n : ℕ} → Counted P vs n → Counted (λ v. P v → ⊥) vs (length vs - n)
others nil = nil
others {P} (has {v} {vs} {n} p c) =
    let e : length vs - n ≡ suc (length vs) - suc n = omega arith in
    subst (Counted (λ u. P u → ⊥) (v ∷ vs)) e (lacks (λ k. k p) (others c))
others {P} (lacks {v} {vs} {n} p c) =
    let h = counted_length c in
    let e : suc (length vs - n) ≡ suc (length vs) - n = omega arith in subst (Counted (λ u. P u → ⊥) (v ∷ vs)) e (has p (others c))

-- there is only one such number
pub counted_unique : {P : List ℤ → Type 0} {vs : List (List ℤ)} (m n : ℕ) → Counted P vs m → Counted P vs n → m ≡ n
counted_unique m n nil nil = refl
counted_unique m n (has p c) (has q d) = ap suc (counted_unique _ _ c d)
counted_unique m n (has p c) (lacks q d) = absurd (q p)
counted_unique m n (lacks p c) (has q d) = absurd (p q)
counted_unique m n (lacks p c) (lacks q d) = counted_unique _ _ c d

pub cut_counts_the_rest : CutCountsTheRest
cut_counts_the_rest s f zs q =
    subst (λ (n : ℕ). Counted (λ v. Run s v → ⊥) (valuations (range_list s.ranges)) (n - kept_of (range_list s.ranges) zs))
    (valuations_length (range_list s.ranges)) (others (kept_counts_runs s f zs q))

pub kept_and_cut : KeptAndCut
kept_and_cut s f zs q =
    let h : kept_of (range_list s.ranges) zs ≤ length (valuations (range_list s.ranges)) = counted_length (kept_counts_runs s f zs q) in
    let e : length (valuations (range_list s.ranges)) ≡ widths (range_list s.ranges) = valuations_length (range_list s.ranges) in
    omega arith
