-- The proof of Sizes: the start's zone is traced, and every step keeps zones traced.
use Rattle.std.specs.Prelude.{◌≡◌, refl, Bool, ◌&&◌, cond, ℕ, suc, ◌+◌, ◌*◌, ◌≤◌, ℤ, pos, nat_abs, length}
use Rattle.std.proofs.Common.{sym, subst, ◌∙◌}
use Rattle.std.proofs.Math.Bool.{true, false}
use mathlib.Core.List.{List, [], ◌∷◌, ◌++◌, Memᴰ}
use native.Mathlib.Omega.{arith}
use Rattle.std.specs.Int.Signed.{le_z}
use Rattle.integer.specs.Bools.{and_left, and_right, and_both}
use Rattle.integer.specs.Parts.{nat_abs_parts}
use Rattle.integer.specs.Product.{size_in}
use Rattle.cursor_laws.specs.Right.{Small}
use Rattle.cutting.specs.Cutting.{Bounds, Zone, start_zone, Tree, cut, keep, asks, tested, Place, places, pushed, guard_tree, never, listed}
use Rattle.cutting.specs.Cutting.{cut_steps}
use Rattle.cutting.specs.Every.{Leads, Lasting, GuardIs, Right, one_of}
use Rattle.cutting.proofs.Every.{steps_right}
use Rattle.cutting.proofs.FirstHeldProof.{Met, never_met}
use Rattle.cutting.proofs.ShapeProof.{Placed, places_placed}
use Rattle.cutting.proofs.Works.{satisfies_one_more, never_fails, of_opposite, not_opposite}
use Rattle.expr.specs.Affine.{Affine, value, opposite}
use Rattle.expr.specs.Bounds.{sum_b, tighter_b, zero_b}
use Rattle.expr.specs.Laws.{opposite_holds}
use Rattle.expr.specs.Ranges.{Inside}
use Rattle.expr.specs.Records.{PARAMETERS, affine, bound_as, range_list}
use Rattle.expr.specs.declared.number.Expr.{Expr}
use Rattle.expr.specs.declared.range.Range.{Range}
use Rattle.guards.specs.Right.{ExprRight, GuardRight}
use Rattle.guards.specs.declared.Guard.{Guard}
use Rattle.valuations.specs.SearchLaws.{first_sound, first_inside}
use Rattle.valuations.specs.Valuations.{satisfies}
use Rattle.sheet.specs.WellFormed.{WellFormed}
use Rattle.sheet.specs.declared.Sheet.{Sheet}
use Rattle.timed.specs.Lists.{AllOf}
use Rattle.timed.specs.Right.{StepRight, filled_at, places_all, lowest, lowest_inside}
use Rattle.timed.proofs.Right as right
use Rattle.timed.specs.Steps.{Step, delay, guard, resets, steps_of, delays}
use Rattle.timed.proofs.Visits.{steps_delays}
use Rattle.weight.specs.Upper.{Upper}
use Rattle.sizes.specs.Sizes.{AtMostE, AtMostB, AtMostM, AsksAtMost, LIMIT, ENTRY, SUM, TEST, SmallGuard, SmallRules, NumbersSmall}
use Rattle.sizes.specs.SizeLaws.{at_most_b_more, zero_size, sum_size_b, tested_size}
use Rattle.sizes.specs.Traces.{Traced, traced_small}
use Rattle.sizes.proofs.StepsTraced.{start_traced, delayed_traced, resets_traced}
use Rattle.sizes.specs.GuardTraced.{Fits, fits_alike, traced_alike, guard_fits}

-- ---- zones
-- the valuations of the ranges that meet the inequalities
abbrev pub Holds : List Range → List Affine → List ℤ → Type 0
Holds rs is v = Inside v rs × (satisfies is v ≡ true)

abbrev pub Some : List Range → List Affine → Type 0
Some rs is = (v : List ℤ) × Holds rs is v

abbrev pub ZoneTraced : List Range → ℕ → ℕ → Zone → Type 0
ZoneTraced rs w n z = Some rs z.ineqs × Traced w n (Holds rs z.ineqs) z.bounds

-- ---- a tree worked on a zone's inequalities
module _ (rs : List Range) where
  met_some : (is : List Affine) → Met rs is → Some rs is
  met_some is m = (m.0, (first_inside rs is m.0 m.1, first_sound rs is m.0 m.1))

  module _ (is : List Affine) (e : Affine) where
    abbrev yes : List ℤ → Bool
    yes v = le_z (pos 0) (value e v)

    -- those of both parts of a split
    to_yes : (v : List ℤ) → Holds rs (is ++ (e ∷ [])) v → Holds rs is v × (yes v ≡ true)
    to_yes v h =
        let a : (satisfies is v && yes v) ≡ true = sym (satisfies_one_more is e v) ∙ h.1 in
        ((h.0, and_left (satisfies is v) (yes v) a), and_right (satisfies is v) (yes v) a)

    from_yes : (v : List ℤ) → Holds rs is v × (yes v ≡ true) → Holds rs (is ++ (e ∷ [])) v
    from_yes v h = (h.0.0, satisfies_one_more is e v ∙ and_both (satisfies is v) (yes v) h.0.1 h.1)

  opposite_no : (e : Affine) (v : List ℤ) → le_z (pos 0) (value (opposite e) v) ≡ true → le_z (pos 0) (value e v) ≡ false
  opposite_no e v = of_opposite (le_z (pos 0) (value (opposite e) v)) (le_z (pos 0) (value e v)) (opposite_holds e v)

  no_opposite : (e : Affine) (v : List ℤ) → le_z (pos 0) (value e v) ≡ false → le_z (pos 0) (value (opposite e) v) ≡ true
  no_opposite e v h = opposite_holds e v ∙ rw h refl

  opposite_yes : (e : Affine) (v : List ℤ) → le_z (pos 0) (value (opposite e) v) ≡ false → le_z (pos 0) (value e v) ≡ true
  opposite_yes e v = not_opposite (le_z (pos 0) (value (opposite e) v)) (le_z (pos 0) (value e v)) (opposite_holds e v)

  module _ (w n : ℕ) where
    abbrev Fit : (List ℤ → Type 0) → Tree → Type 0
    Fit H t = Fits (Traced w n) H t

    alike : (t : Tree) (H H' : List ℤ → Type 0) → ((v : List ℤ) → H v → H' v) → ((v : List ℤ) → H' v → H v) → Fit H' t → Fit H t
    alike = fits_alike (Traced w n) (traced_alike w n)

    abbrev Lead : Tree → Type 0
    Lead t = (is : List Affine) → Some rs is → Fit (Holds rs is) t → Leads rs (ZoneTraced rs w n) t is

    module _ (e : Affine) (f : Bool → Tree) (ih : (b : Bool) → Lead (f b)) (is : List Affine) (s : Some rs is)
        (h : Fit (Holds rs is) (asks e f)) where
      abbrev Answered : Bool → List ℤ → Type 0
      Answered b u = Holds rs is u × (le_z (pos 0) (value e u) ≡ b)

      -- settled, all of them having the same answer
      settled : (b : Bool) → ((v : List ℤ) → Holds rs is v → le_z (pos 0) (value e v) ≡ b) → Leads rs (ZoneTraced rs w n) (f b) is
      settled b all =
          ih b is s (alike (f b) (Holds rs is) (Answered b) (λ v a. (a, all v a)) (λ v a. a.0) (h b s.0 s.1 (all s.0 s.1)))

      yes_part : never rs is e ≡ false → Leads rs (ZoneTraced rs w n) (f true) (is ++ (e ∷ []))
      yes_part q =
          let some = met_some (is ++ (e ∷ [])) (never_met rs is e q) in
          let a = to_yes is e some.0 some.1 in
          ih true (is ++ (e ∷ [])) some
          (alike (f true) (Holds rs (is ++ (e ∷ []))) (Answered true) (to_yes is e) (from_yes is e) (h true some.0 a.0 a.1))

      to_no : (v : List ℤ) → Holds rs (is ++ (opposite e ∷ [])) v → Answered false v
      to_no v a = let b = to_yes is (opposite e) v a in (b.0, opposite_no e v b.1)

      no_part_lem : never rs is (opposite e) ≡ false → Leads rs (ZoneTraced rs w n) (f false) (is ++ (opposite e ∷ []))
      no_part_lem q =
          let some = met_some (is ++ (opposite e ∷ [])) (never_met rs is (opposite e) q) in
          let a = to_no some.0 some.1 in
          ih false (is ++ (opposite e ∷ [])) some
          (alike (f false) (Holds rs (is ++ (opposite e ∷ []))) (Answered false) to_no
          (λ v b. from_yes is (opposite e) v (b.0, no_opposite e v b.1)) (h false some.0 a.0 a.1))

      asks_lead : Leads rs (ZoneTraced rs w n) (asks e f) is
      asks_lead = (
        λ q. settled false (λ v a. never_fails rs is e v a.0 q a.1),
        λ q. settled true (λ v a. opposite_yes e v (never_fails rs is (opposite e) v a.0 q a.1)),
        λ l p q. (yes_part p, no_part_lem q),
      )

    fits_lead : (t : Tree) → Lead t
    fits_lead cut is s h = tt
    fits_lead (keep m) is s h = (s, h)
    fits_lead (asks e f) is s h = asks_lead e f (λ b. fits_lead (f b)) is s h

-- ---- any list of steps
matrix_more : (A B w : ℕ) (m : Bounds) → A ≤ B → AtMostM A w m → AtMostM B w m
matrix_more A B w m h a k l hk hl = at_most_b_more A B h (m k l) (a k l hk hl)

module _ (rs : List Range) (w : ℕ) where
  pub lasting : Lasting rs w (SmallGuard w) (ZoneTraced rs w)
  lasting = record {
    guards = λ n g h z t.
        let e = bound_as g.bound in
        fits_lead rs w n (guard_tree w g.left g.right e z.bounds) z.ineqs t.0
        (guard_fits w n g.left g.right h.left h.right e h.numbers z.bounds (Holds rs z.ineqs) t.1
        t.0.0 t.0.1);
    delays = λ n z t. (t.0, delayed_traced t.1);
    resets = λ n bits z t. (t.0, resets_traced bits w t.1);
  }

  pub start_right : (v : List ℤ) → Inside v rs → Right (ZoneTraced rs w 0) (listed (start_zone ∷ []))
  unfolding satisfies
  start_right v inside = (omega arith, (((v, (inside, refl)), start_traced w (Holds rs [])), tt))

  steps_small : (v : List ℤ) → Inside v rs → (done : List Step) → AllOf (GuardIs (SmallGuard w)) done
      → (zs : List Zone) → cut_steps rs w done (start_zone ∷ []) ≡ listed zs → (z : Zone) → Memᴰ z zs
      → AtMostM (LIMIT * delays done) w z.bounds
  steps_small v inside done a zs q z i =
      let r = subst (Right (ZoneTraced rs w (0 + delays done))) q
      (steps_right rs w (SmallGuard w) (ZoneTraced rs w) lasting done a 0 (start_zone ∷ []) (start_right v inside)) in
      let e : 0 + delays done ≡ delays done = omega arith in
      subst (λ (n : ℕ). AtMostM (LIMIT * n) w z.bounds) e
      (traced_small (one_of (ZoneTraced rs w (0 + delays done)) zs r.1 z i).1)

  -- after at most 33 delays
  pub zone_small : (n : ℕ) (z : Zone) → n ≤ 33 → ZoneTraced rs w n z → AtMostM ENTRY w z.bounds
  zone_small n z few t = matrix_more (LIMIT * n) ENTRY w z.bounds (omega arith) (traced_small t.1)

-- ---- the rules of one guard
module _ (w i j : ℕ) (hi : i ≤ w) (hj : j ≤ w) (e : Upper Affine) (small : AtMostB LIMIT e) (m : Bounds) (h : AtMostM ENTRY w m) where
  first_small : (k : ℕ) → k ≤ w → AtMostB (ENTRY + LIMIT) (sum_b (m k i) e)
  first_small k hk = sum_size_b ENTRY LIMIT (m k i) e (h k i hk hi) small

  through_small : (k l : ℕ) → k ≤ w → l ≤ w → AtMostB SUM (sum_b (sum_b (m k i) e) (m j l))
  through_small k l hk hl =
      at_most_b_more (ENTRY + LIMIT + ENTRY) SUM (omega arith) (sum_b (sum_b (m k i) e) (m j l))
      (sum_size_b (ENTRY + LIMIT) ENTRY (sum_b (m k i) e) (m j l) (first_small k hk) (h j l hj hl))

  back_small : AtMostB SUM (sum_b e (m j i))
  back_small = at_most_b_more (LIMIT + ENTRY) SUM (omega arith) (sum_b e (m j i)) (sum_size_b LIMIT ENTRY e (m j i) small (h j i hj hi))

  pushed_small : (ps : List Place) → Placed w ps → (new : Bounds) → AsksAtMost TEST (pushed i j e m ps new)
  unfolding pushed
  pushed_small [] a new = tt
  pushed_small (p ∷ ps) a new =
      tested_size SUM ENTRY TEST (omega arith) (sum_b (sum_b (m p.row i) e) (m j p.column)) (m p.row p.column)
      (through_small p.row p.column a.0 a.1) (h p.row p.column a.0 a.1) _ (λ b. pushed_small ps a.2 _)

  tests_small : AsksAtMost TEST (guard_tree w i j e m)
  unfolding guard_tree
  tests_small =
      tested_size SUM 0 TEST (omega arith) (sum_b e (m j i)) zero_b back_small (zero_size 0) _ by_void
    where
      by_tight : (b : Bool) → AsksAtMost TEST (cond b (pushed i j e m (places w) m) (keep m))
      by_tight true = pushed_small (places w) (places_placed w) m
      by_tight false = tt

      by_void : (b : Bool)
          → AsksAtMost TEST (cond b cut (tested (tighter_b e (m i j)) (λ tight. cond tight (pushed i j e m (places w) m) (keep m))))
      by_void true = tt
      by_void false = tested_size LIMIT ENTRY TEST (omega arith) e (m i j) small (h i j hi hj) _ by_tight

rules_small : (w : ℕ) (g : Guard) → SmallGuard w g → (m : Bounds) → AtMostM ENTRY w m → SmallRules w g m
rules_small w g s m h =
    let e = bound_as g.bound in
    record {
      back = back_small w g.left g.right s.left s.right e s.numbers m h;
      first = λ k hk.
          at_most_b_more (ENTRY + LIMIT) SUM (omega arith) (sum_b (m k g.left) e)
          (first_small w g.left g.right s.left s.right e s.numbers m h k hk);
      through = through_small w g.left g.right s.left s.right e s.numbers m h;
      tests = tests_small w g.left g.right s.left s.right e s.numbers m h;
    }

-- ---- a readable sheet
number_small : (z : ℤ) → Small z → nat_abs z ≤ LIMIT
number_small z h = rw nat_abs_parts (size_in h.least h.most)

abbrev Limited : ℤ → Type 0
Limited z = nat_abs z ≤ LIMIT

expr_small : (parameters : ℕ) (x : Expr) → ExprRight parameters x → AtMostE LIMIT (affine x)
expr_small parameters x h =
    record {
      constant = number_small x.constant h.constant;
      coefs = places_all Limited (pos 0) x.coefs 0 PARAMETERS (filled_at h.coefs Limited number_small (omega arith) (omega arith));
    }

pub guard_small : (parameters w : ℕ) (g : Guard) → GuardRight parameters w g → SmallGuard w g
guard_small parameters w g h =
    record { left = h.left; right = h.right; numbers = rw h.some (expr_small parameters g.bound.expr h.expr) }

all_small : (parameters w : ℕ) (steps : List Step) → AllOf (StepRight parameters w) steps → AllOf (GuardIs (SmallGuard w)) steps
all_small parameters w [] a = tt
all_small parameters w (delay ∷ steps) a = (tt, all_small parameters w steps a.1)
all_small parameters w (guard visit g ∷ steps) a = (guard_small parameters w g a.0, all_small parameters w steps a.1)
all_small parameters w (resets bits ∷ steps) a = (tt, all_small parameters w steps a.1)

guards_small : (s : Sheet) → WellFormed s → (route : List ℕ) → AllOf (GuardIs (SmallGuard s.clocks)) (steps_of s route)
guards_small s f route = all_small s.parameters s.clocks (steps_of s route) (right.steps_right f route)

all_before : {A : Type 0} (P : A → Type 0) (xs ys : List A) → AllOf P (xs ++ ys) → AllOf P xs
all_before P [] ys a = tt
all_before P (x ∷ xs) ys a = (a.0, all_before P xs ys a.1)

delays_before : (xs ys : List Step) → delays xs ≤ delays (xs ++ ys)
unfolding delays
delays_before [] ys = omega arith
delays_before (delay ∷ xs) ys = omega (arith, delays_before xs ys)
delays_before (guard visit g ∷ xs) ys = delays_before xs ys
delays_before (resets bits ∷ xs) ys = delays_before xs ys

sheets_small : (s : Sheet) → WellFormed s → (route : List ℕ) → length route ≤ 32 → (done rest : List Step)
    → steps_of s route ≡ done ++ rest
    → (zs : List Zone) → cut_steps (range_list s.ranges) s.clocks done (start_zone ∷ []) ≡ listed zs → (z : Zone) → Memᴰ z zs
    → AtMostM ENTRY s.clocks z.bounds
sheets_small s f route short done rest e zs q z i =
    let all = subst (AllOf (GuardIs (SmallGuard s.clocks))) e (guards_small s f route) in
    let count : delays (done ++ rest) ≡ suc (length route) = rw (← e) (steps_delays s route) in
    let few : delays done ≤ 33 = omega (arith, delays_before done rest) in
    matrix_more (LIMIT * delays done) ENTRY s.clocks z.bounds (omega arith)
    (steps_small (range_list s.ranges) s.clocks (lowest s) (lowest_inside s f) done
    (all_before (GuardIs (SmallGuard s.clocks)) done rest all) zs q z i)

pub numbers_small : NumbersSmall
numbers_small =
    record {
      steps = λ rs v inside w. steps_small rs w v inside;
      rules = rules_small;
      guards = guards_small;
      sheets = sheets_small;
    }
