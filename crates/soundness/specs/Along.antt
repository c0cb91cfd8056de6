-- What the zones are worth, along any route: for every valuation in the ranges a zone holds it exactly if a run follows the route under
-- it, and the zone's matrix, with it put in, is Sweep's, its entries the tightest bounds.
use Rattle.std.specs.Prelude.{◌≡◌, refl, ◌↔◌, ◌⊎◌, Bool, true, false, cond, ℕ, ◌≤◌, ℤ, pos}
use Rattle.std.proofs.Common.{sym, ap, subst, ◌∙◌, inl, inr, arith}
use mathlib.Core.List.Memᴰ
use mathlib.Core.List.{List, [], ◌∷◌, Memᴰ}
use Rattle.integer.specs.Apart.{apart}
use Rattle.dbm.specs.Matrix.{Matrix, Outcome, void, kept}
use Rattle.weight.specs.Upper.{Upper, none, upper}
use Rattle.sheet.specs.declared.Sheet.{Sheet}
use Rattle.sheet.specs.WellFormed.{WellFormed}
use Rattle.concrete.specs.Proofs.{along_right}
use Rattle.concrete.specs.Walk.{sweep_along}
use Rattle.timed.specs.Runs.{RunAlong, TightestAlong}
use Rattle.cutting.specs.Cutting.{Zone, listed, zones_along}
use Rattle.cutting.specs.Held.{HeldBy, InRanges, holds, at, found, list_of}
use Rattle.soundness.specs.Agree.{found_along}

-- ---- zones found and zones that hold
found_has : (v : List ℤ) (zs : List Zone) (z : Zone) → Memᴰ z zs → holds v z ≡ true → Memᴰ (at v z.bounds) (found v zs)
unfolding found
found_has v [] z i h = absurd (Memᴰ.not-nil i)
found_has v (y ∷ zs) z i h = by (holds v y) refl (Memᴰ.cases_cons i) (λ k. found_has v zs z k h)
  where
    by : (b : Bool) → holds v y ≡ b → (z ≡ y) ⊎ Memᴰ z zs → (Memᴰ z zs → Memᴰ (at v z.bounds) (found v zs))
        → Memᴰ (at v z.bounds) (cond b (at v y.bounds ∷ found v zs) (found v zs))
    by true e (inl q) ih = Memᴰ.head (ap (λ (x : Zone). at v x.bounds) q)
    by true e (inr k) ih = Memᴰ.tail (ih k)
    by false e (inl q) ih =
        let a : holds v y ≡ true = subst (λ (x : Zone). holds v x ≡ true) q h in
        apart cc
    by false e (inr k) ih = ih k

more_held : {v : List ℤ} {z : Zone} {zs : List Zone} → HeldBy v zs → HeldBy v (z ∷ zs)
more_held h = record { zone = h.zone; one_of = Memᴰ.tail h.one_of; held = h.held }

pub found_held : (v : List ℤ) (zs : List Zone) (m : Matrix (Upper ℤ)) (ms : List (Matrix (Upper ℤ))) → found v zs ≡ m ∷ ms → HeldBy v zs
unfolding found
found_held v [] m ms e = apart cc
found_held v (z ∷ zs) m ms e = by (holds v z) refl e (found_held v zs m ms)
  where
    by : (b : Bool) → holds v z ≡ b → cond b (at v z.bounds ∷ found v zs) (found v zs) ≡ m ∷ ms → (found v zs ≡ m ∷ ms → HeldBy v zs)
        → HeldBy v (z ∷ zs)
    by true h k ih = record { zone = z; one_of = Memᴰ.head refl; held = h }
    by false h k ih = more_held (ih k)

one_kept : (r : Outcome) (m : Matrix (Upper ℤ)) → Memᴰ m (list_of r) → r ≡ kept m
one_kept void m i = absurd (Memᴰ.not-nil i)
one_kept (kept m') m i = ap kept (sym (Memᴰ.eq_of_singleton i))

tightest_run : {s : Sheet} {route : List ℕ} {v : List ℤ} (i j : ℕ) (b : Upper ℤ) → TightestAlong s route v i j b → RunAlong s route v
tightest_run i j none t = (t (pos 0)).0
tightest_run i j (upper false c) t = t.1.0
tightest_run i j (upper true c) t = (t.1 1 (omega arith)).0

-- ---- any route
module _ (s : Sheet) (route : List ℕ) (zs : List Zone) (q : zones_along s route ≡ listed zs) (v : List ℤ) (i : InRanges s v) where
  -- the zones that hold v, with v put in, are what Sweep leaves
  pub along_found : found v zs ≡ list_of (sweep_along s route v)
  along_found = found_along s route v i zs q

  -- a zone that holds v has, with v put in, Sweep's matrix
  pub along_agree : (h : HeldBy v zs) → sweep_along s route v ≡ kept (at v h.zone.bounds)
  along_agree h =
      one_kept (sweep_along s route v) (at v h.zone.bounds)
      (subst (λ (l : List (Matrix (Upper ℤ))). Memᴰ (at v h.zone.bounds) l) along_found
      (found_has v zs h.zone h.one_of h.held))

  module _ (f : WellFormed s) where
    -- and each of its entries is the tightest bound
    pub along_tightest : (h : HeldBy v zs) → (i j : ℕ) → i ≤ s.clocks → j ≤ s.clocks
        → TightestAlong s route v i j (at v h.zone.bounds i j)
    along_tightest h = (along_right s f route v).1 (at v h.zone.bounds) (along_agree h)

    -- a zone holds v exactly if a run follows the route under v
    pub along_held : HeldBy v zs ↔ RunAlong s route v
    along_held = (
      λ h. tightest_run 0 0 (at v h.zone.bounds 0 0) (along_tightest h 0 0 (omega arith) (omega arith)),
      λ r. by r (sweep_along s route v) refl,
    )
      where
        by : RunAlong s route v → (o : Outcome) → sweep_along s route v ≡ o → HeldBy v zs
        by r void e = absurd ((along_right s f route v).0.0 e r)
        by r (kept m) e = found_held v zs m [] (along_found ∙ ap list_of e)
