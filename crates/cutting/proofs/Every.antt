-- What every zone has along the way: what the steps keep, each zone has (specs/Every).
use Rattle.std.specs.Prelude.{◌≡◌, Bool, cond, ℕ, suc, ◌+◌, ◌≤◌, length}
use Rattle.std.proofs.Math.Path.{refl, subst}
use Rattle.std.proofs.Common.{sym, inr}
use Rattle.std.proofs.Math.Logic.{inl}
use mathlib.Core.List.{List, [], ◌∷◌, ◌++◌}
use Rattle.std.proofs.Math.Bool.{true, false}
use native.Mathlib.Omega.{arith}
use borrow.Author.Tests.{ltb-true}
use Rattle.std.proofs.Math.Dec.{ltb}
use Rattle.std.proofs.Math.ListN.{length-append}
use Rattle.dbm.specs.Matrix.{delayed, resets_m}
use Rattle.expr.specs.Affine.{Affine, opposite}
use Rattle.weight.specs.Upper.{none}
use Rattle.expr.specs.Records.{bound_as}
use Rattle.expr.specs.declared.range.Range.{Range}
use Rattle.guards.specs.declared.Guard.{Guard}
use Rattle.timed.specs.Lists.{AllOf}
use Rattle.timed.specs.Right.{all_append}
use Rattle.timed.specs.Steps.{Step, delay, guard, resets, delays}
use Rattle.timed.specs.Visits.{after, after_delays, none_more}
use Rattle.cutting.specs.Listings.{on_length}
use Rattle.cutting.specs.Cutting.{Bounds, Zone, Tree, cut, keep, asks, guard_tree, Listing, listed, refused, INEQS, ZONES}
use Rattle.cutting.specs.Cutting.{never, list_zone, worked, guard_zones, on_bounds, step_zones, and_then, cut_steps}
use Rattle.cutting.specs.Every.{Right, zone, Leads, Lasting, GuardIs, Leaves, LastingM, Splits, Has, AnyMatrix}

-- ---- a tree worked
module _ (rs : List Range) (P : Zone → Type 0) where
  list_right : (visit : ℕ) (z : Zone) (zs : List Zone) → P z → Right P (listed zs) → Right P (list_zone visit z zs)
  unfolding list_zone
  list_right visit z zs h r = by (ltb (length zs) ZONES) refl
    where
      by : (b : Bool) → ltb (length zs) ZONES ≡ b → Right P (cond b (listed (zs ++ (z ∷ []))) (refused 7 visit))
      by true e =
          let a = ltb-true (length zs) ZONES e in
          let c = length-append zs (z ∷ []) in
          (omega arith, all_append P zs (z ∷ []) r.1 (h, tt))
      by false e = inl refl

  abbrev Keeps : ℕ → Tree → Type 0
  Keeps visit t = (is : List Affine) → Leads rs P t is → (o : Listing) → Right P o → Right P (worked rs visit t is o)

  module _ (visit : ℕ) (e : Affine) (f : Bool → Tree) (ih : (b : Bool) → Keeps visit (f b)) (is : List Affine)
      (h : Leads rs P (asks e f) is) (zs : List Zone) (r : Right P (listed zs)) where
    abbrev halves : Listing
    halves = worked rs visit (f false) (is ++ (opposite e ∷ [])) (worked rs visit (f true) (is ++ (e ∷ [])) (listed zs))

    split_right : (b : Bool) → ltb (length is) INEQS ≡ b → never rs is e ≡ false → never rs is (opposite e) ≡ false
        → Right P (cond b halves (refused 8 visit))
    split_right true l p q =
        let s = h.2 (ltb-true (length is) INEQS l) p q in
        ih false (is ++ (opposite e ∷ [])) s.1 _ (ih true (is ++ (e ∷ [])) s.0 (listed zs) r)
    split_right false l p q = inr refl

    asks_right : (a b : Bool) → never rs is e ≡ a → never rs is (opposite e) ≡ b
        → Right P
        (cond a (worked rs visit (f false) is (listed zs))
        (cond b (worked rs visit (f true) is (listed zs)) (cond (ltb (length is) INEQS) halves (refused 8 visit))))
    asks_right true b p q = ih false is (h.0 p) (listed zs) r
    asks_right false true p q = ih true is (h.1 q) (listed zs) r
    asks_right false false p q = split_right (ltb (length is) INEQS) refl p q

  worked_right : (visit : ℕ) (t : Tree) → Keeps visit t
  unfolding worked
  worked_right visit cut is h (listed zs) r = r
  worked_right visit cut is h (refused n k) r = r
  worked_right visit (keep m) is h (listed zs) r = list_right visit (zone is m) zs h r
  worked_right visit (keep m) is h (refused n k) r = r
  worked_right visit (asks e f) is h (listed zs) r =
      asks_right visit e f (λ b. worked_right visit (f b)) is h zs r (never rs is e) (never rs is (opposite e)) refl refl
  worked_right visit (asks e f) is h (refused n k) r = r

module _ (rs : List Range) (w : ℕ) (G : Guard → Type 0) (P : ℕ → Zone → Type 0) (lasting : Lasting rs w G P) where
  guards_right : (n visit : ℕ) (g : Guard) → G g → (zs : List Zone) → AllOf (P n) zs → (o : Listing) → Right (P n) o
      → Right (P n) (guard_zones rs visit w g zs o)
  unfolding guard_zones
  guards_right n visit g h [] a o r = r
  guards_right n visit g h (z ∷ zs) a o r =
      let tree = guard_tree w g.left g.right (bound_as g.bound) z.bounds in
      guards_right n visit g h zs a.1 _ (worked_right rs (P n) visit tree z.ineqs (lasting.guards n g h z a.0) o r)

  on_all : (n k : ℕ) (f : Bounds → Bounds) → ((z : Zone) → P n z → P k (zone z.ineqs (f z.bounds))) → (zs : List Zone)
      → AllOf (P n) zs → AllOf (P k) (on_bounds f zs)
  unfolding on_bounds
  on_all n k f h [] a = tt
  on_all n k f h (z ∷ zs) a = (h z a.0, on_all n k f h zs a.1)

  on_right : (n k : ℕ) (f : Bounds → Bounds) → ((z : Zone) → P n z → P k (zone z.ineqs (f z.bounds))) → (zs : List Zone)
      → Right (P n) (listed zs) → Right (P k) (listed (on_bounds f zs))
  on_right n k f h zs r = (subst (λ (l : ℕ). l ≤ ZONES) (sym (on_length f zs)) r.0, on_all n k f h zs r.1)

  -- one step
  pub step_right : (s : Step) → GuardIs G s → (n : ℕ) (zs : List Zone) → Right (P n) (listed zs)
      → Right (P (after n s)) (step_zones rs w s zs)
  unfolding step_zones
  step_right delay h n zs r = on_right n (suc n) (delayed w none) (lasting.delays n) zs r
  step_right (guard visit g) h n zs r = guards_right n visit g h zs r.1 (listed []) (omega arith, tt)
  step_right (resets bits) h n zs r = on_right n n (resets_m w bits w) (lasting.resets n bits) zs r

  then_right : (n k : ℕ) (o : Listing) (f : List Zone → Listing) → Right (P n) o
      → ((zs : List Zone) → Right (P n) (listed zs) → Right (P k) (f zs)) → Right (P k) (and_then o f)
  then_right n k (listed zs) f r h = h zs r
  then_right n k (refused m v) f r h = r

  -- any list of steps
  pub steps_right : (steps : List Step) → AllOf (GuardIs G) steps → (n : ℕ) (zs : List Zone) → Right (P n) (listed zs)
      → Right (P (n + delays steps)) (cut_steps rs w steps zs)
  unfolding cut_steps
  steps_right [] h n zs r = subst (λ (k : ℕ). Right (P k) (listed zs)) (none_more n) r
  steps_right (s ∷ steps) h n zs r =
      subst (λ (k : ℕ). Right (P k) (and_then (step_zones rs w s zs) (cut_steps rs w steps))) (after_delays n s steps)
      (then_right (after n s) (after n s + delays steps) (step_zones rs w s zs) (cut_steps rs w steps)
      (step_right s h.0 n zs r) (steps_right steps h.1 (after n s)))

module _ (rs : List Range) (I : List Affine → Type 0) (M : Bounds → Type 0) (splits : Splits rs I) where
  leaves_lead : (t : Tree) → Leaves M t → (is : List Affine) → I is → Leads rs (Has I M) t is
  leaves_lead cut h is i = tt
  leaves_lead (keep m) h is i = (i, h)
  leaves_lead (asks e f) h is i = (
    λ q. leaves_lead (f false) (h false) is i,
    λ q. leaves_lead (f true) (h true) is i,
    λ l p q.
        let s = splits is e i l p q in
        (leaves_lead (f true) (h true) (is ++ (e ∷ [])) s.0, leaves_lead (f false) (h false) (is ++ (opposite e ∷ [])) s.1),
  )

  abbrev Any : Guard → Type 0
  Any g = Unit {0}

  any_steps : (steps : List Step) → AllOf (GuardIs Any) steps
  any_steps [] = tt
  any_steps (delay ∷ steps) = (tt, any_steps steps)
  any_steps (guard visit g ∷ steps) = (tt, any_steps steps)
  any_steps (resets bits ∷ steps) = (tt, any_steps steps)

  pub parts_right : (w : ℕ) → LastingM w M → (steps : List Step) (zs : List Zone) → Right (Has I M) (listed zs)
      → Right (Has I M) (cut_steps rs w steps zs)
  parts_right w lasting steps zs r =
      steps_right rs w Any (λ n. Has I M)
      (record {
        guards = λ n g h z a.
            let e = bound_as g.bound in
            leaves_lead (guard_tree w g.left g.right e z.bounds) (lasting.guards g.left g.right e z.bounds a.1)
            z.ineqs a.0;
        delays = λ n z a. (a.0, lasting.delays z.bounds a.1);
        resets = λ n bits z a. (a.0, lasting.resets bits z.bounds a.1);
      }) steps (any_steps steps) 0 zs r

any_leaves : (t : Tree) → Leaves AnyMatrix t
any_leaves cut = tt
any_leaves (keep m) = tt
any_leaves (asks e f) = λ b. any_leaves (f b)

pub any_lasting : (w : ℕ) → LastingM w AnyMatrix
any_lasting w =
    record { guards = λ i j e m h. any_leaves (guard_tree w i j e m); delays = λ m h. tt; resets = λ bits m h. tt }
