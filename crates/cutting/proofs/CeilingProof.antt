-- The proof of Ceiling: on every way through the tree of a guard at most (w + 1)² + 2 tests are asked, one by each of the first two rules
-- and one for each entry; and each test adds one inequality at most.
use Rattle.std.specs.Prelude.{◌≡◌, refl, Bool, true, false, cond, ltb, length}
use Rattle.std.proofs.Common.{ap, subst, ◌∙◌, length-append}
use Rattle.std.proofs.Math.Path.{sym}
use mathlib.Core.List.{List, [], ◌∷◌, ◌++◌, map, append_assoc, append-nil, Memᴰ}
use Prim.Native.Nat.{ℕ, zero, suc, ◌+◌, ◌*◌, ◌≤◌}
use native.Mathlib.Omega.{arith}
use Rattle.integer.specs.Parts.{p}
use Rattle.expr.specs.Affine.{Affine, dot, value, plus_l, minus_l, plus, minus, less_one, opposite}
use Rattle.expr.specs.Bounds.{sum_b, tighter_b, Question, yes', no', ask}
use Rattle.weight.specs.Upper.{Upper}
use Rattle.valuations.specs.Valuations.{span, width, before, valuations, satisfies, first_in, first}
use Rattle.expr.specs.declared.range.Range.{Range}
use Rattle.timed.specs.Lists.{AllOf}
use Rattle.timed.specs.Right.{all_append}
use Rattle.cutting.specs.Every.{one_of}
use Rattle.cutting.specs.Cutting.{Bounds, Zone, Tree, cut, keep, asks, tested, Place, put_entry, row_from, rows_from}
use Rattle.cutting.specs.Cutting.{places, pushed, guard_tree, Listing, listed, refused, INEQS, ZONES, never, list_zone, worked}
use Rattle.cutting.specs.Ways.{Way, Outcome, leads, refuses, list_way, counting, guard_ways, without_counts}
use Rattle.cutting.specs.Ceiling.{CEILING, Adds, Low, met, counts, CeilingHolds}

-- ---- on every way through the tree at most n tests are asked
unfoldable Within : Tree → ℕ → Type 0
Within cut n = Unit {0}
Within (keep m) n = Unit {0}
Within (asks e f) n = (k : ℕ) × (n ≡ suc k) × ((b : Bool) → Within (f b) k)

within_more : (t : Tree) (n : ℕ) → Within t n → Within t (suc n)
unfolding Within
within_more cut n h = tt
within_more (keep m) n h = tt
within_more (asks e f) n h = (n, refl, λ b. subst (Within (f b)) (sym h.1) (within_more (f b) h.0 (h.2 b)))

-- a tree that asks nothing
abbrev Leaf : Tree → Type 0
Leaf cut = Unit {0}
Leaf (keep m) = Unit {0}
Leaf (asks e f) = ⊥

leaf_within : (t : Tree) (n : ℕ) → Leaf t → Within t n
unfolding Within
leaf_within cut n h = tt
leaf_within (keep m) n h = tt
leaf_within (asks e f) n h = absurd h

tested_within : (q : Question) (f : Bool → Tree) (n : ℕ) → ((b : Bool) → Within (f b) n) → Within (tested q f) (suc n)
unfolding tested Within
tested_within yes' f n h = within_more (f true) n (h true)
tested_within no' f n h = within_more (f false) n (h false)
tested_within (ask e) f n h = (n, refl, h)

pushed_within : (i j : ℕ) (e : Upper Affine) (old : Bounds) (ps : List Place) (new : Bounds)
    → Within (pushed i j e old ps new) (length ps)
unfolding pushed
pushed_within i j e old [] new = leaf_within _ 0 tt
pushed_within i j e old (p ∷ ps) new = tested_within _ _ (length ps) (λ b. pushed_within i j e old ps _)

-- there are (w + 1)² entries
row_length : (k l n : ℕ) → length (row_from k l n) ≡ n
unfolding row_from
row_length k l zero = refl
row_length k l (suc n) = ap suc (row_length k (suc l) n)

rows_length : (w k n : ℕ) → length (rows_from w k n) ≡ n * suc w
unfolding rows_from
rows_length w k zero = omega arith
rows_length w k (suc n) =
    let row = row_length k 0 (suc w) in
    let rest = rows_length w (suc k) n in
    let both = length-append (row_from k 0 (suc w)) (rows_from w (suc k) n) in
    omega arith

places_length : (w : ℕ) → length (places w) ≡ suc w * suc w
unfolding places
places_length w = rows_length w 0 (suc w)

cond_within : (b : Bool) (s t : Tree) (n : ℕ) → Within s n → Within t n → Within (cond b s t) n
cond_within true s t n h k = h
cond_within false s t n h k = k

guard_within : (w i j : ℕ) (e : Upper Affine) (m : Bounds) → Within (guard_tree w i j e m) (suc (suc (suc w * suc w)))
unfolding guard_tree
guard_within w i j e m =
    let entries = subst (Within (pushed i j e m (places w) m)) (places_length w) (pushed_within i j e m (places w) m) in
    tested_within _ _ (suc (suc w * suc w)) (λ void.
    cond_within void _ _ (suc (suc w * suc w)) (leaf_within _ _ tt)
    (tested_within _ _ (suc w * suc w) (λ tight. cond_within tight _ _ (suc w * suc w) entries (leaf_within _ _ tt))))

-- ---- a tree worked: every way is below the top, and adds an inequality for each test at most
adds_later : {before is : List Affine} {k : ℕ} → Adds before is k → Adds before is (suc k)
adds_later a = record { added = a.added; same = a.same; few = omega (arith, a.few) }

adds_more : {before is : List Affine} {k : ℕ} (e : Affine) → Adds before is k → Adds before (is ++ (e ∷ [])) (suc k)
adds_more {before} e a =
    record {
      added = a.added ++ (e ∷ []);
      same = ap (λ (l : List Affine). l ++ (e ∷ [])) a.same ∙ append_assoc before a.added (e ∷ []);
      few = omega (arith, a.few, length-append a.added (e ∷ []));
    }

module _ (rs : List Range) (visit top : ℕ) (before : List Affine) where
  abbrev Fine : Way → Type 0
  Fine way = (way.tests ≤ top) × Adds before way.zone.ineqs way.tests

  abbrev AllFine : Outcome → Type 0
  AllFine (leads ws) = AllOf Fine ws
  AllFine (refuses n v) = Unit {0}

  pick_fine : (b : Bool) (o u : Outcome) → AllFine o → AllFine u → AllFine (cond b o u)
  pick_fine true o u h k = h
  pick_fine false o u h k = k

  list_fine : (way : Way) (ws : List Way) → Fine way → AllOf Fine ws → AllFine (list_way visit way ws)
  unfolding list_way
  list_fine way ws h a =
      pick_fine (ltb (length ws) ZONES) (leads (ws ++ (way ∷ []))) (refuses 7 visit) (all_append Fine ws (way ∷ []) a (h, tt)) tt

  counting_fine : (t : Tree) (n k : ℕ) → Within t n → k + n ≤ top → (is : List Affine) → Adds before is k → (o : Outcome) → AllFine o
      → AllFine (counting rs visit t k is o)
  unfolding counting Within
  counting_fine cut n k h l is a (leads ws) g = g
  counting_fine cut n k h l is a (refuses m v) g = g
  counting_fine (keep m) n k h l is a (leads ws) g =
      list_fine (record { zone = record { ineqs = is; bounds = m }; tests = k }) ws (omega arith, a) g
  counting_fine (keep m) n k h l is a (refuses i v) g = g
  counting_fine (asks e f) n k h l is a (leads ws) g =
      let more : n ≡ suc h.0 = h.1 in
      let next : suc k + h.0 ≤ top = omega arith in
      pick_fine (never rs is e) _ _ (counting_fine (f false) h.0 (suc k) (h.2 false) next is (adds_later a) (leads ws) g)
      (pick_fine (never rs is (opposite e)) _ _ (counting_fine (f true) h.0 (suc k) (h.2 true) next is (adds_later a) (leads ws) g)
      (pick_fine (ltb (length is) INEQS) _ (refuses 8 visit)
      (counting_fine (f false) h.0 (suc k) (h.2 false) next (is ++ (opposite e ∷ [])) (adds_more (opposite e) a) _
      (counting_fine (f true) h.0 (suc k) (h.2 true) next (is ++ (e ∷ [])) (adds_more e a) (leads ws) g)) tt))
  counting_fine (asks e f) n k h l is a (refuses m v) g = g

-- ---- without the counts it is the cutting
pub zones_more : (ws : List Way) (w : Way) → map (λ (x : Way). x.zone) (ws ++ (w ∷ [])) ≡ map (λ (x : Way). x.zone) ws ++ (w.zone ∷ [])
zones_more [] w = refl
zones_more (x ∷ ws) w = ap (λ (l : List Zone). x.zone ∷ l) (zones_more ws w)

pub zones_length : (ws : List Way) → length (map (λ (x : Way). x.zone) ws) ≡ length ws
zones_length [] = refl
zones_length (w ∷ ws) = ap suc (zones_length ws)

without_cond : (b : Bool) (o u : Outcome) (p q : Listing) → without_counts o ≡ p → without_counts u ≡ q
    → without_counts (cond b o u) ≡ cond b p q
without_cond true o u p q h k = h
without_cond false o u p q h k = k

list_without : (visit : ℕ) (way : Way) (ws : List Way)
    → without_counts (list_way visit way ws) ≡ list_zone visit way.zone (map (λ (x : Way). x.zone) ws)
unfolding list_way list_zone
list_without visit way ws =
    rw (zones_length ws)
    (without_cond (ltb (length ws) ZONES) (leads (ws ++ (way ∷ []))) (refuses 7 visit) _ (refused 7 visit)
    (ap listed (zones_more ws way)) refl)

pub counting_without : (rs : List Range) (visit : ℕ) (t : Tree) (k : ℕ) (is : List Affine) (o : Outcome)
    → without_counts (counting rs visit t k is o) ≡ worked rs visit t is (without_counts o)
unfolding counting worked
counting_without rs visit cut k is (leads ws) = refl
counting_without rs visit cut k is (refuses n v) = refl
counting_without rs visit (keep m) k is (leads ws) = list_without visit (record { zone = record { ineqs = is; bounds = m }; tests = k }) ws
counting_without rs visit (keep m) k is (refuses n v) = refl
counting_without rs visit (asks e f) k is (leads ws) =
    without_cond (never rs is e) _ _ _ _ (counting_without rs visit (f false) (suc k) is (leads ws))
    (without_cond (never rs is (opposite e)) _ _ _ _ (counting_without rs visit (f true) (suc k) is (leads ws))
    (without_cond (ltb (length is) INEQS) _ (refuses 8 visit) _ (refused 8 visit)
    (counting_without rs visit (f false) (suc k) (is ++ (opposite e ∷ [])) (counting rs visit (f true) (suc k) (is ++ (e ∷ [])) (leads ws))
    ∙ ap (worked rs visit (f false) (is ++ (opposite e ∷ []))) (counting_without rs visit (f true) (suc k) (is ++ (e ∷ [])) (leads ws)))
    refl))
counting_without rs visit (asks e f) k is (refuses n v) = refl

-- ---- the theorem
module _ (rs : List Range) (visit w i j : ℕ) (e : Upper Affine) (z : Zone) where
  all_fine : AllFine rs visit (CEILING w) z.ineqs (guard_ways rs visit w i j e z)
  unfolding guard_ways
  all_fine =
      counting_fine rs visit (CEILING w) z.ineqs (guard_tree w i j e z.bounds) _ _ (guard_within w i j e z.bounds) (omega arith)
      z.ineqs (record { added = []; same = sym (append-nil z.ineqs); few = omega arith }) (leads []) tt

  all_low : (ws : List Way) → guard_ways rs visit w i j e z ≡ leads ws → (way : Way) → Memᴰ way ws → Low w z way
  all_low ws h way m =
      let fine = subst (AllFine rs visit (CEILING w) z.ineqs) h all_fine in
      let f = one_of (Fine rs visit (CEILING w) z.ineqs) ws fine way m in
      record { tests = f.0; ineqs = f.1 }

-- the ceiling is met, by computing
met_counts : counts met ≡ CEILING 1 ∷ 2 ∷ []
unfolding guard_ways counting guard_tree pushed places rows_from row_from tested put_entry list_way never
    sum_b tighter_b plus minus less_one opposite plus_l minus_l dot value
    first first_in satisfies valuations before span width p
met_counts = refl

pub ceiling_holds : CeilingHolds
unfolding guard_ways
ceiling_holds =
    record {
      same = λ rs visit w i j e z. counting_without rs visit (guard_tree w i j e z.bounds) 0 z.ineqs (leads []);
      low = all_low;
      four = refl;
      reached = met_counts;
    }
