-- What the code does to zones in order under one guard (Guarded) is what the cutting does: the tree of tests is worked to the same ways,
-- test for test, and a refusal sticks on both sides.
use Rattle.std.specs.Prelude.{◌≡◌, Bool, eqb, replicate}
use Rattle.std.proofs.Math.Path.{refl, ap}
use Rattle.std.proofs.Common.{sym, ◌∙◌, arith}
use mathlib.Core.List.{List, [], ◌∷◌, ◌++◌, map}
use Rattle.std.proofs.Math.Bool.{true, false, cond}
use Prim.Native.Nat.{ℕ, suc, ◌-◌, ◌≤◌, ◌<◌}
use borrow.Author.Tests.{ltb-true, le-ltb, lt-ltb}
use Rattle.std.proofs.Math.Dec.{ltb}
use Rattle.std.proofs.Math.ListN.{length, set}
use Rattle.cutting.specs.Cutting.{Bounds, Tree, cut, keep, asks, guard_tree, Listing, listed, refused, INEQS, ZONES, never, guard_zones}
use Rattle.cutting.specs.Cutting.{and_then}
use Rattle.cutting.specs.Cutting as cutting
use Rattle.cutting.specs.Every.{Right}
use Rattle.cutting.specs.Ways.{Way, Outcome, leads, refuses, list_way, counting, without_counts}
use Rattle.cutting.proofs.CeilingProof.{zones_more, zones_length, counting_without}
use Rattle.cutting.proofs.NumberedProof.{some_number}
use Rattle.expr.specs.Affine.{Affine, opposite}
use Rattle.expr.specs.Records.{affine, expr_of, bound_as, range_list, zero_expr}
use Rattle.valuations.specs.Valuations.{first}
use Rattle.expr.specs.declared.number.Expr.{Expr}
use Rattle.expr.specs.declared.range.Ranges.{Ranges}
use Rattle.guards.specs.declared.Guard.{Guard}
use Rattle.sizes.specs.Sizes.{AtMostE, AtMostM, AsksAtMost, ENTRY, TEST, SmallGuard}
use Rattle.sizes.proofs.SizesProof.{numbers_small}
use Rattle.timed.specs.Lists.{AllOf}
use Rattle.coded.specs.Records.{bounds_of, zone_of, zones_in, coded}
use Rattle.coded.specs.Counts.{counts_in, coded_ways}
use Rattle.coded.specs.Coded.{one_more, length_more, taken}
use Rattle.coded.specs.CodedTests.{pad_first, opposite_coded, never_is}
use Rattle.coded.specs.CodedTree.{tree_of, guard_same}
use Rattle.split.specs.Guarded.{rule_c, cut_c, cut_all, guarded_c}
use Rattle.split.specs.Listed.{none_at, refused_c, added_c, list_c}
use Rattle.split.specs.declared.list.Counted.{Counted}
use Rattle.zones.specs.Zone.{blank_zone, plus_c}
use Rattle.parts.specs.Parts.{with_bounds}
use Rattle.split.specs.Trees.{TreeC, cut_t, keep_t, ask_t, worked_c}
use Rattle.zones.specs.Settled.{opposite_c, never_c, is_none}
use Rattle.zones.specs.declared.zone.Zone.{Zone}
use Rattle.zones.specs.declared.zone.Zones.{Zones}

-- a refusal has a number
abbrev pub Told : Outcome → Type 0
Told (leads ws) = Unit {0}
Told (refuses n v) = eqb n 0 ≡ false

abbrev with_ineqs : List Affine → Bounds → cutting.Zone
with_ineqs is m = record { ineqs = is; bounds = m }

-- ---- one zone
ineqs_more : (is : List Affine) (e : Affine) → map expr_of is ++ (expr_of e ∷ []) ≡ map expr_of (is ++ (e ∷ []))
ineqs_more [] e = refl
ineqs_more (i ∷ is) e = ap (λ (l : List Expr). expr_of i ∷ l) (ineqs_more is e)

never_coded : (b : Ranges) (is : List Affine) (m : Bounds) (e : Affine)
    → never_c b (zone_of (with_ineqs is m)) (expr_of e) ≡ never (range_list b) is e
unfolding never_c zone_of
never_coded b is m e =
    ap (λ (l : List Expr). is_none (first (range_list b) (map affine (l ++ (expr_of e ∷ []))))) (taken expr_of zero_expr (24 - length is) is)
    ∙ ap (λ (l : List Expr). is_none (first (range_list b) (map affine l))) (ineqs_more is e)
    ∙ ap is_none (pad_first b (is ++ (e ∷ [])))
    ∙ never_is b is e

plus_coded : (is : List Affine) (m : Bounds) (e : Affine) → length is < 24
    → plus_c (zone_of (with_ineqs is m)) (expr_of e) ≡ zone_of (with_ineqs (is ++ (e ∷ [])) m)
unfolding plus_c zone_of
plus_coded is m e h =
    ap (λ (l : List Expr). record { count = suc (length is); ineqs = l; bounds = bounds_of m }) (one_more expr_of zero_expr 24 is e h)
    ∙ ap
    (λ (k : ℕ).
    record { count = k; ineqs = map expr_of (is ++ (e ∷ [])) ++ replicate (24 - length (is ++ (e ∷ []))) zero_expr; bounds = bounds_of m })
    (sym (length_more is e))

-- a zone listed with its count of tests
module _ (visit : ℕ) (z : cutting.Zone) (k : ℕ) (ws : List Way) where
  abbrev way : Way
  way = record { zone = z; tests = k }

  abbrev zs : List cutting.Zone
  zs = map (λ (w : Way). w.zone) ws

  abbrev added : Zones
  added = added_c (zone_of z) (coded visit (listed zs))

  room : (b : Bool) → ltb (length ws) 32 ≡ b → ltb (length zs) 32 ≡ b
  room b h = ap (λ (n : ℕ). ltb n 32) (zones_length ws) ∙ h

  zones_listed : length zs < 32 → added ≡ coded visit (listed (map (λ (w : Way). w.zone) (ws ++ (way ∷ []))))
  unfolding coded zones_in
  zones_listed h =
      ap (λ (l : List Zone). record { refusal = 0; visit = visit; count = suc (length zs); list = l })
      (one_more zone_of blank_zone 32 zs z h)
      ∙ ap (λ (n : ℕ). record { refusal = 0; visit = visit; count = n; list = zones_in (zs ++ (z ∷ [])) }) (sym (length_more zs z))
      ∙ ap (λ (l : List cutting.Zone). coded visit (listed l)) (sym (zones_more ws way))

  counts_listed : length ws < 32 → set (counts_in (leads ws)) (length zs) k ≡ counts_in (leads (ws ++ (way ∷ [])))
  counts_listed h =
      ap (λ (n : ℕ). set (counts_in (leads ws)) n k) (zones_length ws) ∙ one_more (λ (w : Way). w.tests) 0 32 ws way h

  list_coded : list_c (zone_of z) k (coded_ways visit (leads ws)) ≡ coded_ways visit (list_way visit way ws)
  unfolding list_c coded_ways coded list_way refused_c
  list_coded = by (ltb (length ws) 32) refl
    where
      by : (b : Bool) → ltb (length ws) 32 ≡ b
          → cond (ltb (length zs) 32) (record { zones = added; tests = set (counts_in (leads ws)) (length zs) k })
          (refused_c 7 (coded_ways visit (leads ws)))
          ≡ coded_ways visit (cond b (leads (ws ++ (way ∷ []))) (refuses 7 visit))
      by true h =
          rw (room true h)
          (ap (λ (l : Zones). record { zones = l; tests = set (counts_in (leads ws)) (length zs) k })
          (zones_listed (ltb-true (length zs) 32 (room true h)))
          ∙ ap
          (λ (l : List ℕ). record { zones = coded visit (listed (map (λ (w : Way). w.zone) (ws ++ (way ∷ [])))); tests = l })
          (counts_listed (ltb-true (length ws) 32 h)))
      by false h = rw (room false h) refl

other_bounds : (is : List Affine) (m₀ m : Bounds) → with_bounds (zone_of (with_ineqs is m₀)) (bounds_of m) ≡ zone_of (with_ineqs is m)
unfolding zone_of
other_bounds is m₀ m = refl

-- ---- a refusal sticks
cond_all : {A : Type 0} (b : Bool) (x y o : A) → x ≡ o → y ≡ o → cond b x y ≡ o
cond_all true x y o h k = h
cond_all false x y o h k = k

refused_stays : (n : ℕ) (out : Counted) → eqb out.zones.refusal 0 ≡ false → refused_c n out ≡ out
unfolding refused_c
refused_stays n out h = rw h refl

sticks : (b : Ranges) (t : TreeC) (k : ℕ) (z : Zone) (out : Counted) → eqb out.zones.refusal 0 ≡ false → worked_c b t k z out ≡ out
unfolding worked_c list_c
sticks b cut_t k z out h = refl
sticks b (keep_t m) k z out h = rw h (refused_stays 7 out h)
sticks b (ask_t e f) k z out h =
    cond_all (never_c b z e) (worked_c b (f false) (suc k) z out) _ out (sticks b (f false) (suc k) z out h)
    (cond_all (never_c b z (opposite_c e)) (worked_c b (f true) (suc k) z out) _ out (sticks b (f true) (suc k) z out h)
    (cond_all (ltb z.count 24) (worked_c b (f false) (suc k) (plus_c z (opposite_c e)) (worked_c b (f true) (suc k) (plus_c z e) out))
    (refused_c 8 out) out
    (ap (worked_c b (f false) (suc k) (plus_c z (opposite_c e))) (sticks b (f true) (suc k) (plus_c z e) out h)
    ∙ sticks b (f false) (suc k) (plus_c z (opposite_c e)) out h)
    (refused_stays 8 out h)))

-- ---- a tree worked
module _ (b : Ranges) (visit : ℕ) where
  abbrev counts : Tree → ℕ → List Affine → Outcome → Outcome
  counts t k is o = counting (range_list b) visit t k is o

  -- a tree is refused by a number
  pick_told : (x : Bool) (o u : Outcome) → Told o → Told u → Told (cond x o u)
  pick_told true o u h k = h
  pick_told false o u h k = k

  counted_told : (t : Tree) (k : ℕ) (is : List Affine) (o : Outcome) → Told o → Told (counts t k is o)
  unfolding counting list_way
  counted_told cut k is (leads ws) s = tt
  counted_told cut k is (refuses n v) s = s
  counted_told (keep m) k is (leads ws) s = pick_told (ltb (length ws) ZONES) _ (refuses 7 visit) tt refl
  counted_told (keep m) k is (refuses n v) s = s
  counted_told (asks e f) k is (leads ws) s =
      pick_told (never (range_list b) is e) _ _ (counted_told (f false) (suc k) is (leads ws) s)
      (pick_told (never (range_list b) is (opposite e)) _ _ (counted_told (f true) (suc k) is (leads ws) s)
      (pick_told (ltb (length is) INEQS) _ (refuses 8 visit)
      (counted_told (f false) (suc k) (is ++ (opposite e ∷ [])) (counts (f true) (suc k) (is ++ (e ∷ [])) (leads ws))
      (counted_told (f true) (suc k) (is ++ (e ∷ [])) (leads ws) s)) refl))
  counted_told (asks e f) k is (refuses n v) s = s

  module _ (m₀ : Bounds) where
    abbrev Coded : Tree → Type 0
    Coded t =
        (k : ℕ) (is : List Affine) (o : Outcome) → Told o
        → worked_c b (tree_of t) k (zone_of (with_ineqs is m₀)) (coded_ways visit o) ≡ coded_ways visit (counts t k is o)

    module _ (e : Affine) (f : Bool → Tree) (small : AtMostE TEST e) (ih : (x : Bool) → Coded (f x)) (k : ℕ) (is : List Affine)
        (ws : List Way) where
      abbrev zone : Zone
      zone = zone_of (with_ineqs is m₀)

      -- one test more was asked
      abbrev goes : Bool → Zone → Counted → Counted
      goes x z out = worked_c b (tree_of (f x)) (suc k) z out

      abbrev leads_on : Bool → List Affine → Outcome → Outcome
      leads_on x is o = counts (f x) (suc k) is o

      -- what was listed before
      abbrev out : Counted
      out = coded_ways visit (leads ws)

      -- both halves, as the code has them and as the cutting has them
      abbrev halves_c : Counted
      halves_c = goes false (plus_c zone (expr_of (opposite e))) (goes true (plus_c zone (expr_of e)) out)

      abbrev halves : Outcome
      halves = leads_on false (is ++ (opposite e ∷ [])) (leads_on true (is ++ (e ∷ [])) (leads ws))

      split_coded : length is < 24 → halves_c ≡ coded_ways visit halves
      split_coded h =
          ap (λ (z : Zone). goes false z (goes true (plus_c zone (expr_of e)) out)) (plus_coded is m₀ (opposite e) h)
          ∙ ap (λ (z : Zone). goes false (zone_of (with_ineqs (is ++ (opposite e ∷ [])) m₀)) (goes true z out)) (plus_coded is m₀ e h)
          ∙ ap (goes false (zone_of (with_ineqs (is ++ (opposite e ∷ [])) m₀))) (ih true (suc k) (is ++ (e ∷ [])) (leads ws) tt)
          ∙ ih false (suc k) (is ++ (opposite e ∷ [])) (leads_on true (is ++ (e ∷ [])) (leads ws))
          (counted_told (f true) (suc k) (is ++ (e ∷ [])) (leads ws) tt)

      room_coded : (x : Bool) → ltb (length is) 24 ≡ x
          → cond x halves_c (refused_c 8 out) ≡ coded_ways visit (cond x halves (refuses 8 visit))
      unfolding refused_c coded coded_ways
      room_coded true h = split_coded (ltb-true (length is) 24 h)
      room_coded false h = refl

      all_coded : (x : Bool)
          → cond x (goes true zone out) (cond (ltb (length is) 24) halves_c (refused_c 8 out))
          ≡ coded_ways visit (cond x (leads_on true is (leads ws)) (cond (ltb (length is) INEQS) halves (refuses 8 visit)))
      all_coded true = ih true (suc k) is (leads ws) tt
      all_coded false = room_coded (ltb (length is) 24) refl

      none_coded : (x : Bool)
          → cond x (goes false zone out)
          (cond (never (range_list b) is (opposite e)) (goes true zone out) (cond (ltb (length is) 24) halves_c (refused_c 8 out)))
          ≡ coded_ways visit (cond x (leads_on false is (leads ws))
          (cond (never (range_list b) is (opposite e)) (leads_on true is (leads ws))
          (cond (ltb (length is) INEQS) halves (refuses 8 visit))))
      none_coded true = ih false (suc k) is (leads ws) tt
      none_coded false = all_coded (never (range_list b) is (opposite e))

      asks_coded : worked_c b (tree_of (asks e f)) k zone out ≡ coded_ways visit (counts (asks e f) k is (leads ws))
      unfolding worked_c counting zone_of
      asks_coded =
          rw (opposite_coded e small)
          (rw (never_coded b is m₀ e, never_coded b is m₀ (opposite e)) (none_coded (never (range_list b) is e)))

    counting_refused : (t : Tree) (k : ℕ) (is : List Affine) (n v : ℕ) → counts t k is (refuses n v) ≡ refuses n v
    unfolding counting
    counting_refused cut k is n v = refl
    counting_refused (keep m) k is n v = refl
    counting_refused (asks e f) k is n v = refl

    stuck : (t : Tree) (k : ℕ) (is : List Affine) (n v : ℕ) → eqb n 0 ≡ false
        → worked_c b (tree_of t) k (zone_of (with_ineqs is m₀)) (coded_ways visit (refuses n v)) ≡ coded_ways visit (counts t k is (refuses n v))
    unfolding coded coded_ways
    stuck t k is n v s =
        sticks b (tree_of t) k (zone_of (with_ineqs is m₀)) (coded_ways visit (refuses n v)) s
        ∙ ap (coded_ways visit) (sym (counting_refused t k is n v))

    worked_coded : (t : Tree) → AsksAtMost TEST t → Coded t
    unfolding worked_c counting coded coded_ways refused_c
    worked_coded cut g k is (leads ws) s = refl
    worked_coded cut g k is (refuses n v) s = stuck cut k is n v s
    worked_coded (keep m) g k is (leads ws) s = rw (other_bounds is m₀ m) (list_coded visit (with_ineqs is m) k ws)
    worked_coded (keep m) g k is (refuses n v) s = stuck (keep m) k is n v s
    worked_coded (asks e f) g k is (leads ws) s = asks_coded e f g.0 (λ x. worked_coded (f x) (g.1 x)) k is ws
    worked_coded (asks e f) g k is (refuses n v) s = stuck (asks e f) k is n v s

-- ---- one guard
module _ (b : Ranges) (visit w : ℕ) (g : Guard) (four : w ≤ 4) (small : SmallGuard w g) where
  -- a zone whose entries are small
  abbrev pub Small : cutting.Zone → Type 0
  Small z = AtMostM ENTRY w z.bounds

  abbrev tree : cutting.Zone → Tree
  tree z = guard_tree w g.left g.right (bound_as g.bound) z.bounds

  -- one zone, after what was listed before
  abbrev one : cutting.Zone → Outcome → Outcome
  one z o = counting (range_list b) visit (tree z) 0 z.ineqs o

  pub zone_coded : (z : cutting.Zone) → Small z → (o : Outcome) → Told o
      → cut_c b (rule_c w g (zone_of z)) (zone_of z) (coded_ways visit o) ≡ coded_ways visit (one z o)
  unfolding cut_c zone_of
  zone_coded z h o s =
      ap (λ (t : TreeC). worked_c b t 0 (zone_of z) (coded_ways visit o)) (guard_same w g z.bounds four small h)
      ∙ worked_coded b visit z.bounds (tree z) (numbers_small.rules w g small z.bounds h).tests 0 z.ineqs o s

  -- zones in order
  abbrev each : List cutting.Zone → Outcome → Outcome
  each [] o = o
  each (z ∷ zs) o = each zs (one z o)

  each_coded : (zs : List cutting.Zone) → AllOf Small zs → (o : Outcome) → Told o
      → cut_all b w g (map zone_of zs) (coded_ways visit o) ≡ coded_ways visit (each zs o)
  unfolding cut_all
  each_coded [] a o s = refl
  each_coded (z ∷ zs) a o s =
      ap (cut_all b w g (map zone_of zs)) (zone_coded z a.0 o s)
      ∙ each_coded zs a.1 (one z o) (counted_told b visit (tree z) 0 z.ineqs o s)

  -- without the counts they are the cutting's
  each_without : (zs : List cutting.Zone) (o : Outcome)
      → without_counts (each zs o) ≡ guard_zones (range_list b) visit w g zs (without_counts o)
  unfolding guard_zones
  each_without [] o = refl
  each_without (z ∷ zs) o =
      each_without zs (one z o)
      ∙ ap (guard_zones (range_list b) visit w g zs) (counting_without (range_list b) visit (tree z) 0 z.ineqs o)

  -- what follows on a listing that is not refused
  abbrev cuts : List cutting.Zone → Listing
  cuts zs = guard_zones (range_list b) visit w g zs (listed [])

  zones_coded : (zs : List cutting.Zone) → AllOf Small zs
      → (cut_all b w g (map zone_of zs) (coded_ways visit (leads []))).zones ≡ coded visit (cuts zs)
  unfolding coded_ways
  zones_coded zs a =
      ap (λ (o : Counted). o.zones) (each_coded zs a (leads []) tt) ∙ ap (coded visit) (each_without zs (leads []))

  pub guard_coded : (o : Listing) → Right Small o → guarded_c b w g (coded visit o) ≡ coded visit (and_then o cuts)
  unfolding guarded_c coded coded_ways none_at zones_in
  guard_coded (listed zs) r =
      let left : g.left ≤ 4 = omega (arith, small.left) in
      let right : g.right ≤ 4 = omega (arith, small.right) in
      rw (le-ltb 4 g.left left, le-ltb 4 g.right right, taken zone_of blank_zone (32 - length zs) zs) (zones_coded zs r.1)
  guard_coded (refused n k) r = rw (lt-ltb 0 n (some_number n r)) refl
