-- What steps list for one valuation: working a tree lists just what the tree comes to, and a guard, a delay or resets over all zones do
-- to the zones that hold the valuation what the rules of the matrices do there.
use Rattle.std.proofs.Math.Path.{◌≡◌, refl, sym, ap, fun_ext}
use Rattle.std.proofs.Common.{subst, ◌∙◌}
use mathlib.Core.List.{List, [], ◌∷◌, ◌++◌, append_assoc}
use Rattle.std.specs.Prelude.{Bool, ◌&&◌, not, ℕ, zero, suc, ◌/◌, ◌%◌, ◌^◌, eqb, ltb, leb, ℤ, pos, length}
use Rattle.std.proofs.Math.Bool.{true, false, cond}
use Rattle.std.proofs.Math.Option.{Option}
use Rattle.std.proofs.Math.Option as option
use Rattle.std.specs.Int.Signed.{le_z}
use Rattle.integer.specs.Apart.{apart}
use Rattle.dbm.specs.Matrix.{Matrix, start, inside, delayed, reset_at, reset_m, resets_m, Outcome, void, kept, guarded}
use Rattle.expr.specs.Affine.{Affine, value, dot, opposite}
use Rattle.weight.specs.Upper.{Upper, none}
use Rattle.expr.specs.Bounds.{at_v}
use Rattle.expr.specs.Ranges.{Inside}
use Rattle.integer.specs.Bools.{and_left, and_right}
use Rattle.expr.specs.Laws.{opposite_holds}
use Rattle.valuations.specs.SearchLaws.{first_none}
use Rattle.expr.specs.Records.{bound_as}
use Rattle.valuations.specs.Valuations.{satisfies, first}
use Rattle.expr.specs.declared.range.Range.{Range}
use Rattle.guards.specs.declared.Guard.{Guard}
use Rattle.timed.specs.Steps.{delay, guard, resets}
use Rattle.cutting.specs.Cutting.{Bounds, start_b, Zone, Tree, cut, keep, asks, guard_tree, Listing, listed, refused}
use Rattle.cutting.specs.Cutting.{INEQS, ZONES, never, list_zone, worked, guard_zones, on_bounds, step_zones}
use Rattle.cutting.specs.Held.{holds, at, found, list_of}
use Rattle.cutting.specs.Listings.{listed_same, not_listed, worked_refused, guards_refused}
use Rattle.cutting.proofs.Comes.{Comes, guard_comes}

-- ---- lists
pub append_nil : {A : Type 0} (xs : List A) → xs ++ [] ≡ xs
append_nil [] = refl
append_nil (x ∷ xs) = ap (λ ys. x ∷ ys) (append_nil xs)

found_append : (v : List ℤ) (xs ys : List Zone) → found v (xs ++ ys) ≡ found v xs ++ found v ys
unfolding found
found_append v [] ys = refl
found_append v (z ∷ xs) ys = by (holds v z) (found_append v xs ys)
  where
    by : (b : Bool) → found v (xs ++ ys) ≡ found v xs ++ found v ys
        → cond b (at v z.bounds ∷ found v (xs ++ ys)) (found v (xs ++ ys))
        ≡ cond b (at v z.bounds ∷ found v xs) (found v xs) ++ found v ys
    by true ih = ap (λ (l : List (Matrix (Upper ℤ))). at v z.bounds ∷ l) ih
    by false ih = ih

pub satisfies_one_more : (is : List Affine) (e : Affine) (v : List ℤ)
    → satisfies (is ++ (e ∷ [])) v ≡ (satisfies is v && le_z (pos 0) (value e v))
unfolding satisfies
satisfies_one_more [] e v = by (le_z (pos 0) (value e v))
  where
    by : (b : Bool) → (b && true) ≡ b
    by true = refl
    by false = refl
satisfies_one_more (i ∷ is) e v = by (le_z (pos 0) (value i v)) (satisfies_one_more is e v)
  where
    by : (b : Bool) → satisfies (is ++ (e ∷ [])) v ≡ (satisfies is v && le_z (pos 0) (value e v))
        → (b && satisfies (is ++ (e ∷ [])) v) ≡ ((b && satisfies is v) && le_z (pos 0) (value e v))
    by true ih = ih
    by false ih = refl

-- ---- a settled test
never_none : (rs : List Range) (is : List Affine) (e : Affine) → never rs is e ≡ true → first rs (is ++ (e ∷ [])) ≡ option.none
unfolding never
never_none rs is e h = by (first rs (is ++ (e ∷ []))) refl
  where
    by : (o : Option (List ℤ)) → first rs (is ++ (e ∷ [])) ≡ o → first rs (is ++ (e ∷ [])) ≡ option.none
    by option.none q = q
    by (option.some u) q = let k = rw q at h in apart cc

pub never_fails : (rs : List Range) (is : List Affine) (e : Affine) (v : List ℤ) → Inside v rs → never rs is e ≡ true
    → satisfies is v ≡ true → le_z (pos 0) (value e v) ≡ false
never_fails rs is e v i h s =
    ap (λ (b : Bool). b && le_z (pos 0) (value e v)) (sym s) ∙ sym (satisfies_one_more is e v)
    ∙ first_none rs (is ++ (e ∷ [])) (never_none rs is e h) v i

-- ---- a tree worked on a zone's inequalities
-- the zones of an outcome that stands for v if b
abbrev of_v : Bool → Outcome → List (Matrix (Upper ℤ))
of_v b r = cond b (list_of r) []

halves : (a b c : Bool) (xs : List (Matrix (Upper ℤ))) (r : Outcome) → c ≡ not b → (xs ++ of_v (a && b) r) ++ of_v (a && c) r ≡ xs ++ of_v a r
halves true true true xs r h = cc
halves true true false xs r h = append_nil (xs ++ list_of r)
halves true false true xs r h = ap (λ (l : List (Matrix (Upper ℤ))). l ++ list_of r) (append_nil xs)
halves true false false xs r h = cc
halves false b c xs r h = append_nil (xs ++ [])

pub of_opposite : (a b : Bool) → a ≡ not b → a ≡ true → b ≡ false
of_opposite a true x y = cc
of_opposite a false x y = refl

pub not_opposite : (a b : Bool) → a ≡ not b → a ≡ false → b ≡ true
not_opposite a true x y = refl
not_opposite a false x y = cc

-- working the tree lists, for v, just what the tree comes to, if v meets the inequalities
abbrev Works : List Range → ℕ → List ℤ → Tree → Type 0
Works rs visit v t =
    (is : List Affine) (zs zs' : List Zone) (r : Outcome) → (satisfies is v ≡ true → Comes v t r)
    → worked rs visit t is (listed zs) ≡ listed zs' → found v zs' ≡ found v zs ++ of_v (satisfies is v) r

module _ (rs : List Range) (visit : ℕ) (v : List ℤ) (inside-ranges : Inside v rs) where
  cut_works : Works rs visit v cut
  unfolding worked
  cut_works is zs zs' r h q = ap (found v) (sym (listed_same q)) ∙ sym (append_nil (found v zs))
      ∙ ap (λ (l : List (Matrix (Upper ℤ))). found v zs ++ l) (by (satisfies is v) h)
    where
      by : (b : Bool) → (b ≡ true → r ≡ void) → ◌≡◌ {A = List (Matrix (Upper ℤ))} [] (of_v b r)
      by true k = ap list_of (sym (k refl))
      by false k = refl

  keep_works : (m : Bounds) → Works rs visit v (keep m)
  unfolding worked list_zone found
  keep_works m is zs zs' r h q =
      by (ltb (length zs) ZONES) q ∙ found_append v zs (record { ineqs = is; bounds = m } ∷ [])
      ∙ ap (λ (l : List (Matrix (Upper ℤ))). found v zs ++ l) (one (satisfies is v) h)
    where
      by : (b : Bool) → cond b (listed (zs ++ (record { ineqs = is; bounds = m } ∷ []))) (refused 7 visit) ≡ listed zs'
          → found v zs' ≡ found v (zs ++ (record { ineqs = is; bounds = m } ∷ []))
      by true k = ap (found v) (sym (listed_same k))
      by false k = absurd (not_listed k)

      one : (b : Bool) → (b ≡ true → r ≡ kept (at v m)) → cond b (at v m ∷ []) [] ≡ of_v b r
      one true k = ap list_of (sym (k refl))
      one false k = refl

  module _ (e : Affine) (f : Bool → Tree) (ih : (b : Bool) → Works rs visit v (f b)) (is : List Affine) (zs zs' : List Zone) (r : Outcome)
      (h : satisfies is v ≡ true → Comes v (asks e f) r) where
    abbrev Goal : Type 0
    Goal = found v zs' ≡ found v zs ++ of_v (satisfies is v) r

    on : (b : Bool) → satisfies is v ≡ true → le_z (pos 0) (value e v) ≡ b → Comes v (f b) r
    on b s k = subst (λ (x : Bool). Comes v (f x) r) k (h s)

    abbrev yes_half : Listing
    yes_half = worked rs visit (f true) (is ++ (e ∷ [])) (listed zs)

    abbrev no_half_lem : Listing → Listing
    no_half_lem o = worked rs visit (f false) (is ++ (opposite e ∷ [])) o

    split_works : (o : Listing) → yes_half ≡ o → no_half_lem o ≡ listed zs' → Goal
    split_works (refused n k) o q = absurd (not_listed (sym (worked_refused rs visit (f false) (is ++ (opposite e ∷ [])) n k) ∙ q))
    split_works (listed zs₁) o q =
        ih false (is ++ (opposite e ∷ [])) zs₁ zs' r no_comes q
        ∙ ap (λ (l : List (Matrix (Upper ℤ))). l ++ of_v (satisfies (is ++ (opposite e ∷ [])) v) r)
        (ih true (is ++ (e ∷ [])) zs zs₁ r yes_comes o)
        ∙ ap (λ (b : Bool). (found v zs ++ of_v b r) ++ of_v (satisfies (is ++ (opposite e ∷ [])) v) r) (satisfies_one_more is e v)
        ∙ ap (λ (b : Bool). (found v zs ++ of_v (satisfies is v && le_z (pos 0) (value e v)) r) ++ of_v b r)
        (satisfies_one_more is (opposite e) v)
        ∙ halves (satisfies is v) (le_z (pos 0) (value e v)) (le_z (pos 0) (value (opposite e) v)) (found v zs) r (opposite_holds e v)
      where
        yes_comes : satisfies (is ++ (e ∷ [])) v ≡ true → Comes v (f true) r
        yes_comes s =
            let a : (satisfies is v && le_z (pos 0) (value e v)) ≡ true = sym (satisfies_one_more is e v) ∙ s in
            on true (and_left (satisfies is v) (le_z (pos 0) (value e v)) a) (and_right (satisfies is v) (le_z (pos 0) (value e v)) a)

        no_comes : satisfies (is ++ (opposite e ∷ [])) v ≡ true → Comes v (f false) r
        no_comes s =
            let a : (satisfies is v && le_z (pos 0) (value (opposite e) v)) ≡ true = sym (satisfies_one_more is (opposite e) v) ∙ s in
            on false (and_left (satisfies is v) (le_z (pos 0) (value (opposite e) v)) a)
            (of_opposite (le_z (pos 0) (value (opposite e) v)) (le_z (pos 0) (value e v)) (opposite_holds e v)
            (and_right (satisfies is v) (le_z (pos 0) (value (opposite e) v)) a))

    room : (b : Bool) → cond b (no_half_lem yes_half) (refused 8 visit) ≡ listed zs' → Goal
    room true q = split_works yes_half refl q
    room false q = absurd (not_listed q)

    all_do : (b : Bool) → never rs is (opposite e) ≡ b
        → cond b (worked rs visit (f true) is (listed zs)) (cond (ltb (length is) INEQS) (no_half_lem yes_half) (refused 8 visit))
        ≡ listed zs' → Goal
    all_do true k q = ih true is zs zs' r
        (λ s. on true s (not_opposite (le_z (pos 0) (value (opposite e) v)) (le_z (pos 0) (value e v)) (opposite_holds e v)
        (never_fails rs is (opposite e) v inside-ranges k s))) q
    all_do false k q = room (ltb (length is) INEQS) q

    none_does : (b : Bool) → never rs is e ≡ b
        → cond b (worked rs visit (f false) is (listed zs))
        (cond (never rs is (opposite e)) (worked rs visit (f true) is (listed zs))
        (cond (ltb (length is) INEQS) (no_half_lem yes_half) (refused 8 visit))) ≡ listed zs'
        → Goal
    none_does true k q = ih false is zs zs' r (λ s. on false s (never_fails rs is e v inside-ranges k s)) q
    none_does false k q = all_do (never rs is (opposite e)) refl q

    asks_works : worked rs visit (asks e f) is (listed zs) ≡ listed zs' → Goal
    unfolding worked
    asks_works q = none_does (never rs is e) refl q

  tree_works : (t : Tree) → Works rs visit v t
  unfolding worked
  tree_works cut = cut_works
  tree_works (keep m) = keep_works m
  tree_works (asks e f) = asks_works e f (λ b. tree_works (f b))

-- ---- steps on all matrices of a list
unfoldable pub each : (Matrix (Upper ℤ) → Outcome) → List (Matrix (Upper ℤ)) → List (Matrix (Upper ℤ))
each f [] = []
each f (m ∷ ms) = list_of (f m) ++ each f ms

pub each_kept : (ms : List (Matrix (Upper ℤ))) → each kept ms ≡ ms
unfolding each
each_kept [] = refl
each_kept (m ∷ ms) = ap (λ (l : List (Matrix (Upper ℤ))). m ∷ l) (each_kept ms)

-- ---- a guard
one_more : (b : Bool) (f : Matrix (Upper ℤ) → Outcome) (m : Matrix (Upper ℤ)) (xs ms : List (Matrix (Upper ℤ)))
    → (xs ++ of_v b (f m)) ++ each f ms ≡ xs ++ each f (cond b (m ∷ ms) ms)
unfolding each
one_more true f m xs ms = append_assoc xs (list_of (f m)) (each f ms)
one_more false f m xs ms = ap (λ (l : List (Matrix (Upper ℤ))). l ++ each f ms) (append_nil xs)

-- the guard's rules at v
abbrev pub guard_at : ℕ → List ℤ → Guard → Matrix (Upper ℤ) → Outcome
guard_at w v g m = guarded w g.left g.right (at_v v (bound_as g.bound)) m

module _ (rs : List Range) (visit : ℕ) (v : List ℤ) (inside-ranges : Inside v rs) (w : ℕ) where
  guard_zones_lem : (g : Guard) (zs os zs' : List Zone) → guard_zones rs visit w g zs (listed os) ≡ listed zs'
      → found v zs' ≡ found v os ++ each (guard_at w v g) (found v zs)
  unfolding guard_zones found each
  guard_zones_lem g [] os zs' q = ap (found v) (sym (listed_same q)) ∙ sym (append_nil (found v os))
  guard_zones_lem g (z ∷ zs) os zs' q = by (worked rs visit tree z.ineqs (listed os)) refl q (λ os₁. guard_zones_lem g zs os₁ zs')
    where
      tree : Tree
      tree = guard_tree w g.left g.right (bound_as g.bound) z.bounds

      by : (o : Listing) → worked rs visit tree z.ineqs (listed os) ≡ o → guard_zones rs visit w g zs o ≡ listed zs'
          → ((os₁ : List Zone) → guard_zones rs visit w g zs (listed os₁) ≡ listed zs'
          → found v zs' ≡ found v os₁ ++ each (guard_at w v g) (found v zs))
          → found v zs' ≡ found v os ++ each (guard_at w v g) (cond (holds v z) (at v z.bounds ∷ found v zs) (found v zs))
      by (refused n k) e q ih = absurd (not_listed (sym (guards_refused rs visit w g zs n k) ∙ q))
      by (listed os₁) e q ih =
          ih os₁ q
          ∙ ap (λ (l : List (Matrix (Upper ℤ))). l ++ each (guard_at w v g) (found v zs))
          (tree_works rs visit v inside-ranges tree z.ineqs os os₁ (guard_at w v g (at v z.bounds))
          (λ s. guard_comes v w g.left g.right (bound_as g.bound) z.bounds) e)
          ∙ one_more (holds v z) (guard_at w v g) (at v z.bounds) (found v os) (found v zs)

-- ---- steps on every zone's matrix
on_found : (v : List ℤ) (f : Bounds → Bounds) (f' : Matrix (Upper ℤ) → Matrix (Upper ℤ)) → ((m : Bounds) → at v (f m) ≡ f' (at v m))
    → (zs : List Zone) → found v (on_bounds f zs) ≡ each (λ m. kept (f' m)) (found v zs)
unfolding on_bounds found each
on_found v f f' h [] = refl
on_found v f f' h (z ∷ zs) = by (holds v z) (on_found v f f' h zs)
  where
    by : (b : Bool) → found v (on_bounds f zs) ≡ each (λ m. kept (f' m)) (found v zs)
        → cond b (at v (f z.bounds) ∷ found v (on_bounds f zs)) (found v (on_bounds f zs))
        ≡ each (λ m. kept (f' m)) (cond b (at v z.bounds ∷ found v zs) (found v zs))
    by true ih = rw (h z.bounds, ih) refl
    by false ih = ih

at_cond : (v : List ℤ) (b : Bool) (x y : Upper Affine) → at_v v (cond b x y) ≡ cond b (at_v v x) (at_v v y)
at_cond v true x y = refl
at_cond v false x y = refl

delay_at : (v : List ℤ) (w : ℕ) (m : Bounds) → at v (delayed w none m) ≡ delayed w none (at v m)
unfolding at delayed at_v
delay_at v w m = fun_ext (λ i. fun_ext (λ j. at_cond v (ltb 0 i && (leb i w && eqb j 0)) none (m i j)))

reset_at_at : (v : List ℤ) (m : Bounds) (a b : Bool) (i j : ℕ) → at_v v (reset_at m a b i j) ≡ reset_at (at v m) a b i j
unfolding at
reset_at_at v m true true i j = refl
reset_at_at v m true false i j = refl
reset_at_at v m false true i j = refl
reset_at_at v m false false i j = refl

reset_at_lem : (v : List ℤ) (w r : ℕ) (m : Bounds) → at v (reset_m w r m) ≡ reset_m w r (at v m)
unfolding at reset_m
reset_at_lem v w r m = fun_ext (λ i. fun_ext (λ j.
    at_cond v (inside w i j) (reset_at m (eqb i r) (eqb j r) i j) (m i j)
    ∙ ap (λ (x : Upper ℤ). cond (inside w i j) x (at v m i j)) (reset_at_at v m (eqb i r) (eqb j r) i j)))

resets_at : (v : List ℤ) (w bits n : ℕ) (m : Bounds) → at v (resets_m w bits n m) ≡ resets_m w bits n (at v m)
unfolding resets_m
resets_at v w bits zero m = refl
resets_at v w bits (suc i) m = by (eqb (bits / 2 ^ i % 2) 1) (resets_at v w bits i m)
  where
    by : (b : Bool) → at v (resets_m w bits i m) ≡ resets_m w bits i (at v m)
        → at v (cond b (reset_m w (suc i) (resets_m w bits i m)) (resets_m w bits i m))
        ≡ cond b (reset_m w (suc i) (resets_m w bits i (at v m))) (resets_m w bits i (at v m))
    by true ih = reset_at_lem v w (suc i) (resets_m w bits i m) ∙ ap (reset_m w (suc i)) ih
    by false ih = ih

-- ---- each kind of step
module _ (rs : List Range) (v : List ℤ) (inside-ranges : Inside v rs) (w : ℕ) (zs zs' : List Zone) where
  pub delay_found : step_zones rs w delay zs ≡ listed zs' → found v zs' ≡ each (λ m. kept (delayed w none m)) (found v zs)
  unfolding step_zones
  delay_found q = ap (found v) (sym (listed_same q)) ∙ on_found v (delayed w none) (delayed w none) (delay_at v w) zs

  pub guard_found : (visit : ℕ) (g : Guard) → step_zones rs w (guard visit g) zs ≡ listed zs'
      → found v zs' ≡ each (guard_at w v g) (found v zs)
  unfolding step_zones found
  guard_found visit g q = guard_zones_lem rs visit v inside-ranges w g zs [] zs' q

  pub resets_found : (bits : ℕ) → step_zones rs w (resets bits) zs ≡ listed zs'
      → found v zs' ≡ each (λ m. kept (resets_m w bits w m)) (found v zs)
  unfolding step_zones
  resets_found bits q = ap (found v) (sym (listed_same q)) ∙ on_found v (resets_m w bits w) (resets_m w bits w) (resets_at v w bits w) zs

pub start_at : (v : List ℤ) → at v start_b ≡ start
unfolding at start_b start at_v value dot
start_at v = refl
