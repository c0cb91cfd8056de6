-- The proof of Disjoint: any steps leave a valuation in no more zones than held it before, and one zone holds it at the start.
use Rattle.std.specs.Prelude.{◌≡◌, refl, Bool, true, false, cond, ℕ, zero, suc, ◌≤◌, ◌<◌, ℤ, get_or}
use Rattle.std.proofs.Common.{ap, sym, arith, length-append}
use Rattle.std.proofs.Math.Path.{subst}
use mathlib.Core.List.{List, [], ◌∷◌}
use Rattle.std.proofs.Math.ListN.{length}
use Rattle.dbm.specs.Matrix.{Matrix, Outcome, void, kept, delayed, resets_m}
use Rattle.expr.specs.Ranges.{Inside}
use Rattle.weight.specs.Upper.{Upper, none}
use Rattle.expr.specs.Records.{range_list}
use Rattle.valuations.specs.Valuations.{satisfies}
use Rattle.expr.specs.declared.range.Range.{Range}
use Rattle.timed.specs.Automaton.{route_of}
use Rattle.timed.specs.Steps.{Step, delay, guard, resets, steps_of}
use Rattle.cutting.specs.Cutting.{Zone, start_zone, listed, step_zones, cut_steps, zones_along, zones_of}
use Rattle.cutting.specs.Held.{holds, at, found, list_of}
use Rattle.cutting.specs.Listings.{listed_same, listed_first}
use Rattle.cutting.proofs.Works.{each, guard_at, delay_found, guard_found, resets_found}
use Rattle.cutting.specs.Disjoint.{AlongDisjoint, PiecesDisjoint, ZonesApart}

-- ---- steps leave no more than there was
at_most_one : (r : Outcome) → length (list_of r) ≤ 1
at_most_one void = omega arith
at_most_one (kept m) = omega arith

each_fewer : (f : Matrix (Upper ℤ) → Outcome) (ms : List (Matrix (Upper ℤ))) → length (each f ms) ≤ length ms
unfolding each
each_fewer f [] = omega arith
each_fewer f (m ∷ ms) = omega (arith, at_most_one (f m), each_fewer f ms, length-append (list_of (f m)) (each f ms))

as_many : (f : Matrix (Upper ℤ) → Outcome) (xs ms : List (Matrix (Upper ℤ))) → xs ≡ each f ms → length xs ≤ length ms
as_many f xs ms e = subst (λ (l : List (Matrix (Upper ℤ))). length l ≤ length ms) (sym e) (each_fewer f ms)

module _ (rs : List Range) (v : List ℤ) (inside-ranges : Inside v rs) (w : ℕ) where
  step_fewer : (s : Step) (zs zs' : List Zone) → step_zones rs w s zs ≡ listed zs' → length (found v zs') ≤ length (found v zs)
  step_fewer delay zs zs' q = as_many (λ m. kept (delayed w none m)) (found v zs') (found v zs) (delay_found rs v inside-ranges w zs zs' q)
  step_fewer (guard visit g) zs zs' q = as_many (guard_at w v g) (found v zs') (found v zs)
      (guard_found rs v inside-ranges w zs zs' visit g q)
  step_fewer (resets bits) zs zs' q = as_many (λ m. kept (resets_m w bits w m)) (found v zs') (found v zs)
      (resets_found rs v inside-ranges w zs zs' bits q)

  pub steps_fewer : (steps : List Step) (zs zs' : List Zone) → cut_steps rs w steps zs ≡ listed zs'
      → length (found v zs') ≤ length (found v zs)
  unfolding cut_steps
  steps_fewer [] zs zs' q = subst (λ (l : List Zone). length (found v l) ≤ length (found v zs)) (listed_same q) (omega arith)
  steps_fewer (s ∷ steps) zs zs' q =
      let (zs₁, a, b) = listed_first (step_zones rs w s zs) (cut_steps rs w steps) zs' q in
      omega (arith, step_fewer s zs zs₁ a, steps_fewer steps zs₁ zs' b)

  pub steps_disjoint : (steps : List Step) (zs : List Zone) → cut_steps rs w steps (start_zone ∷ []) ≡ listed zs → length (found v zs) ≤ 1
  unfolding found satisfies
  steps_disjoint steps zs q = steps_fewer steps (start_zone ∷ []) zs q

-- ---- at most one found, so at one place
holder_counts : (v : List ℤ) (zs : List Zone) (d : Zone) (i : ℕ) → i < length zs → holds v (get_or zs i d) ≡ true → 1 ≤ length (found v zs)
unfolding found
holder_counts v [] d i h k = absurd (omega arith)
holder_counts v (z ∷ zs) d zero h k = rw k (omega arith)
holder_counts v (z ∷ zs) d (suc i) h k = by (holds v z) (holder_counts v zs d i (omega arith) k)
  where
    by : (b : Bool) → 1 ≤ length (found v zs) → 1 ≤ length (cond b (at v z.bounds ∷ found v zs) (found v zs))
    by true g = omega arith
    by false g = g

fewer : (b : Bool) (m : Matrix (Upper ℤ)) (ms : List (Matrix (Upper ℤ))) → length (cond b (m ∷ ms) ms) ≤ 1 → length ms ≤ 1
fewer true m ms h = omega arith
fewer false m ms h = h

both_count : (m : Matrix (Upper ℤ)) (ms : List (Matrix (Upper ℤ))) → length (m ∷ ms) ≤ 1 → 1 ≤ length ms → ⊥
both_count m ms h k = omega arith

one_place : (v : List ℤ) (zs : List Zone) → length (found v zs) ≤ 1 → (d : Zone) (i j : ℕ) → i < length zs → j < length zs
    → holds v (get_or zs i d) ≡ true → holds v (get_or zs j d) ≡ true → i ≡ j
unfolding found
one_place v [] l d i j a b e g = absurd (omega arith)
one_place v (z ∷ zs) l d zero zero a b e g = refl
one_place v (z ∷ zs) l d zero (suc j) a b e g = absurd
    (both_count (at v z.bounds) (found v zs) (rw e at l) (holder_counts v zs d j (omega arith) g))
one_place v (z ∷ zs) l d (suc i) zero a b e g = absurd
    (both_count (at v z.bounds) (found v zs) (rw g at l) (holder_counts v zs d i (omega arith) e))
one_place v (z ∷ zs) l d (suc i) (suc j) a b e g =
    ap suc (one_place v zs (fewer (holds v z) (at v z.bounds) (found v zs) l) d i j (omega arith) (omega arith) e g)

-- ---- along any route, and along the sheet's own
pub along_disjoint : AlongDisjoint
unfolding zones_along
along_disjoint s route zs q v i = steps_disjoint (range_list s.ranges) v i s.clocks (steps_of s route) zs q

pub pieces_disjoint : PiecesDisjoint
unfolding zones_of
pieces_disjoint s zs q v i = along_disjoint s (route_of s) zs q v i

pub zones_apart : ZonesApart
zones_apart s zs q v i = one_place v zs (pieces_disjoint s zs q v i)
