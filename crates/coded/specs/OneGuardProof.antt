-- The proof of OneGuard: the reply by CodedGuard, its counts by the ceiling of the cutting; and for any records at all, since the code goes
-- through 27 phases, each with one test at most.
use Rattle.std.specs.Prelude.{◌≡◌, refl, Bool, true, false, cond, ℕ, zero, suc, ◌+◌, ◌-◌, ◌≤◌, eqb, ltb, length, set, replicate}
use Rattle.std.proofs.Common.{sym, arith}
use Rattle.std.proofs.Math.Path.{subst}
use mathlib.Core.List.{List, [], ◌∷◌, map, append-nil, Memᴰ}
use Rattle.cutting.specs.Cutting as cutting
use Rattle.cutting.specs.Ways.{Way, Outcome, leads, refuses, guard_ways}
use Rattle.cutting.specs.Ceiling.{CEILING}
use Rattle.cutting.proofs.CeilingProof.{ceiling_holds}
use Rattle.expr.specs.declared.bound.Bound.{Bound}
use Rattle.expr.specs.declared.bound.Test.{Test}
use Rattle.expr.specs.declared.bound.Test.TheVariants.{Yes, No, Ask}
use Rattle.expr.specs.declared.number.Expr.{Expr}
use Rattle.expr.specs.declared.range.Ranges.{Ranges}
use Rattle.guards.specs.Right.{GuardRight}
use Rattle.guards.specs.declared.Guard.{Guard}
use Rattle.sheet.specs.WellFormed.{WellFormed}
use Rattle.sheet.specs.declared.Sheet.{Sheet}
use Rattle.sizes.proofs.SizesProof.{numbers_small, guard_small}
use Rattle.timed.specs.Lists.{AllOf}
use Rattle.timed.specs.Right.{all_append}
use Rattle.timed.specs.Steps.{steps_of}
use Rattle.constrain.specs.Rules.{void_test, tight_test, push_test}
use Rattle.constrain.specs.declared.rule.Rule.{Rule}
use Rattle.split.specs.Guarded.{rule_c, cut_c, one_c}
use Rattle.split.specs.Trees.{TreeC, cut_t, keep_t, ask_t, tested_c, push_c, tight_c, tree_at, worked_c}
use Rattle.split.specs.Listed.{nothing_at, none_at, refused_c, list_c}
use Rattle.split.specs.declared.list.Counted.{Counted}
use Rattle.zones.specs.Settled.{opposite_c, never_c}
use Rattle.zones.specs.Zone.{plus_c}
use Rattle.zones.specs.declared.zone.Zone.{Zone}
use Rattle.coded.specs.Records.{zone_of, zones_in, coded}
use Rattle.coded.specs.Counts.{counts_in, coded_ways}
use Rattle.coded.specs.CodedGuard.{zone_coded}
use Rattle.coded.specs.OneGuard.{Fits, ruled, OneGuard}

-- ---- the reply
module _ (b : Ranges) (w : ℕ) (g : Guard) (visit : ℕ) (z : cutting.Zone) (f : Fits w g z) where
  reply_is : one_c b w g visit (zone_of z) ≡ coded_ways visit (ruled b w g visit z)
  unfolding one_c guard_ways none_at coded_ways coded zones_in
  reply_is = zone_coded b visit w g f.four f.guard z f.entries (leads []) tt

zeros_low : (top n : ℕ) → AllOf (λ k. k ≤ top) (replicate n 0)
zeros_low top zero = tt
zeros_low top (suc n) = (omega arith, zeros_low top n)

map_all : {A : Type 0} (f : A → ℕ) (P : ℕ → Type 0) (l : List A) → ((a : A) → Memᴰ a l → P (f a)) → AllOf P (map f l)
map_all f P [] h = tt
map_all f P (a ∷ l) h = (h a (Memᴰ.head refl), map_all f P l (λ x m. h x (Memᴰ.tail m)))

module _ (b : Ranges) (w : ℕ) (g : Guard) (visit : ℕ) (z : cutting.Zone) where
  counts_low : (o : Outcome) → ruled b w g visit z ≡ o → AllOf (λ k. k ≤ CEILING w) (counts_in o)
  counts_low (leads ws) e =
      all_append (λ k. k ≤ CEILING w) (map (λ (way : Way). way.tests) ws) (replicate (32 - length ws) 0)
      (map_all (λ (way : Way). way.tests) (λ k. k ≤ CEILING w) ws (λ way m. (ceiling_holds.low _ visit w _ _ _ z ws e way m).tests))
      (zeros_low (CEILING w) (32 - length ws))
  counts_low (refuses n v) e = zeros_low (CEILING w) 32

  reply_low : Fits w g z → AllOf (λ k. k ≤ CEILING w) (one_c b w g visit (zone_of z)).tests
  unfolding coded_ways
  reply_low f =
      subst (λ (out : Counted). AllOf (λ k. k ≤ CEILING w) out.tests) (sym (reply_is b w g visit z f))
      (counts_low (ruled b w g visit z) refl)

-- ---- any records: on every way through the code's tree at most n tests are asked
abbrev Within : TreeC → ℕ → Type 0
Within cut_t n = Unit {0}
Within (keep_t m) n = Unit {0}
Within (ask_t e f) n = (k : ℕ) × (n ≡ suc k) × ((b : Bool) → Within (f b) k)

within_more : (t : TreeC) (n : ℕ) → Within t n → Within t (suc n)
within_more cut_t n h = tt
within_more (keep_t m) n h = tt
within_more (ask_t e f) n h = (n, refl, λ b. subst (Within (f b)) (sym h.1) (within_more (f b) h.0 (h.2 b)))

tested_within : (t : Test) (f : Bool → TreeC) (n : ℕ) → ((b : Bool) → Within (f b) n) → Within (tested_c t f) (suc n)
unfolding tested_c
tested_within Yes f n h = within_more (f true) n (h true)
tested_within No f n h = within_more (f false) n (h false)
tested_within (Ask e) f n h = (n, refl, h)

push_within : (r : Rule) (k x : ℕ) (new : List Bound) → Within (push_c r k x new) k
unfolding push_c
push_within r zero x new = tt
push_within r (suc k) x new = tested_within (push_test r x) _ k (λ b. push_within r k (suc x) _)

cond_within : (b : Bool) (s t : TreeC) (n : ℕ) → Within s n → Within t n → Within (cond b s t) n
cond_within true s t n h k = h
cond_within false s t n h k = k

tree_within : (r : Rule) (new : List Bound) → Within (tree_at r 0 new) 27
unfolding tree_at tight_c
tree_within r new =
    tested_within (void_test r) _ 26 (λ void. cond_within void cut_t _ 26 tt
    (tested_within (tight_test r) _ 25 (λ tight. cond_within tight _ (keep_t new) 25 (push_within r 25 0 new) tt)))

-- ---- and every count that is listed is at most 27
abbrev Few : Counted → Type 0
Few out = AllOf (λ k. k ≤ 27) out.tests

set_few : (l : List ℕ) (i k : ℕ) → AllOf (λ n. n ≤ 27) l → k ≤ 27 → AllOf (λ n. n ≤ 27) (set l i k)
set_few [] i k a h = tt
set_few (x ∷ l) zero k a h = (h, a.1)
set_few (x ∷ l) (suc i) k a h = (a.0, set_few l i k a.1 h)

pick_few : (b : Bool) (o u : Counted) → Few o → Few u → Few (cond b o u)
pick_few true o u h k = h
pick_few false o u h k = k

refused_few : (n : ℕ) (out : Counted) → Few out → Few (refused_c n out)
unfolding refused_c
refused_few n out f = pick_few (eqb out.zones.refusal 0) (nothing_at n out.zones.visit) out (zeros_low 27 32) f

list_few : (z : Zone) (k : ℕ) (out : Counted) → k ≤ 27 → Few out → Few (list_c z k out)
unfolding list_c
list_few z k out h f =
    pick_few (eqb out.zones.refusal 0) _ (refused_c 7 out)
    (pick_few (ltb out.zones.count 32) _ (refused_c 7 out) (set_few out.tests out.zones.count k f h) (refused_few 7 out f))
    (refused_few 7 out f)

worked_few : (b : Ranges) (t : TreeC) (n k : ℕ) → Within t n → k + n ≤ 27 → (z : Zone) (out : Counted) → Few out
    → Few (worked_c b t k z out)
unfolding worked_c
worked_few b cut_t n k h l z out f = f
worked_few b (keep_t m) n k h l z out f = list_few _ k out (omega arith) f
worked_few b (ask_t e t) n k h l z out f =
    let more : n ≡ suc h.0 = h.1 in
    let next : suc k + h.0 ≤ 27 = omega arith in
    pick_few (never_c b z e) _ _ (worked_few b (t false) h.0 (suc k) (h.2 false) next z out f)
    (pick_few (never_c b z (opposite_c e)) _ _ (worked_few b (t true) h.0 (suc k) (h.2 true) next z out f)
    (pick_few (ltb z.count 24) _ (refused_c 8 out)
    (worked_few b (t false) h.0 (suc k) (h.2 false) next (plus_c z (opposite_c e)) _
    (worked_few b (t true) h.0 (suc k) (h.2 true) next (plus_c z e) out f))
    (refused_few 8 out f)))

reply_few : (b : Ranges) (clocks : ℕ) (g : Guard) (visit : ℕ) (z : Zone) → Few (one_c b clocks g visit z)
unfolding one_c cut_c none_at
reply_few b clocks g visit z =
    worked_few b (tree_at (rule_c clocks g z) 0 z.bounds) 27 0 (tree_within (rule_c clocks g z) z.bounds) (omega arith) z
    (nothing_at 0 visit) (zeros_low 27 32)

-- ---- a readable sheet
all_fit : (s : Sheet) → WellFormed s → (route : List ℕ) → length route ≤ 32 → (zs : List cutting.Zone)
    → cutting.zones_along s route ≡ cutting.listed zs → (z : cutting.Zone) → Memᴰ z zs
    → (g : Guard) → GuardRight s.parameters s.clocks g → Fits s.clocks g z
unfolding cutting.zones_along
all_fit s f route short zs e z m g r =
    record {
      four = f.clocks;
      guard = guard_small s.parameters s.clocks g r;
      entries = numbers_small.sheets s f route short (steps_of s route) [] (sym (append-nil (steps_of s route))) zs e z m;
    }

pub one_guard : OneGuard
one_guard = record { fits = all_fit; reply = reply_is; low = reply_low; few = reply_few }
