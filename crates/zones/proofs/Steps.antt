-- The cases of the code's steps, with the branches' tests.
use mathlib.Core.Path.{◌≡◌, refl, sym, ap, subst, ◌∙◌}
use mathlib.Core.List.{List, map}
use mathlib.Core.Bool.{Bool, true, false}
use Prim.Native.Nat.{ℕ, ◌+◌, ◌≤◌, ◌<◌, min}
use native.Mathlib.Numerals.{add-one}
use native.Mathlib.Omega.{arith}
use borrow.Author.Tests.{lt-ltb, le-ltb, ltb-true, ltb-false}
use lib.Dec.{ltb}
use lib.IntN.{ℤ}
use lib.ListN.{length, get_or, set, take}
use lib.Seq.{take_all, take-suc}
use Rattle.expr.specs.Records.{affine, no_expr}
use Rattle.inequalities.specs.Flat.{exprs_in}
use Rattle.expr.specs.declared.number.Expr.{Expr}
use Rattle.zones.specs.System.{put_in}
use Rattle.zones.specs.Put.{written_length, written_next}
use Rattle.zones.specs.Zone.{plus_c, more_c}
use Rattle.zones.specs.declared.zone.Zone.{Zone}

module _ (z : Zone) (e : Expr) where
  pub more_in : z.count < 24 → record { count = z.count + 1; ineqs = set z.ineqs z.count e; bounds = z.bounds } ≡ more_c z e
  unfolding more_c plus_c
  more_in h = rw (lt-ltb z.count 24 h, add-one z.count) refl

  pub more_full : 24 ≤ z.count → z ≡ more_c z e
  unfolding more_c
  more_full h = rw (le-ltb z.count 24 h) refl

-- ---- the zone's inequalities, for the search
-- the first i are there
pub record Copied (xs : List Expr) (n i : ℕ) (l : List ℤ) : Type 0 where
  pub few : n ≤ 24
  pub within : i ≤ n
  pub long : length l ≡ 125
  pub zone_long : length xs ≡ 24
  pub same : exprs_in l i ≡ map affine (take i xs)

pub copied_turn : (xs : List Expr) (n i : ℕ) (l : List ℤ) → Copied xs n i l → i < n
    → Copied xs n (i + 1) (put_in l i (get_or xs i no_expr))
copied_turn xs n i l c h =
    record {
      few = c.few;
      within = omega arith;
      long = written_length l i (get_or xs i no_expr) (omega (arith, c.few)) c.long;
      zone_long = c.zone_long;
      same =
          ap (exprs_in (put_in l i (get_or xs i no_expr))) (add-one i)
          ∙ written_next l i (get_or xs i no_expr) (omega (arith, c.few)) c.long (take i xs) c.same
          ∙ ap (map affine)
          (sym (take-suc xs i no_expr (omega (arith, c.few, c.zone_long))) ∙ ap (λ (m : ℕ). take m xs) (sym (add-one i)));
    }

pub copied_all : (xs : List Expr) (n i k : ℕ) (l : List ℤ) → n ≡ min k 24 → Copied xs n i l → n ≤ i
    → exprs_in l n ≡ map affine (take k xs)
copied_all xs n i k l q c h =
    let same : i ≡ n = omega (arith, c.within) in
    subst (λ (m : ℕ). exprs_in l m ≡ map affine (take m xs)) same c.same ∙ ap (map affine) (cut (ltb k 24) refl)
  where
    cut : (t : Bool) → ltb k 24 ≡ t → take n xs ≡ take k xs
    cut true s = let g = ltb-true k 24 s in let same : n ≡ k = omega arith in ap (λ (m : ℕ). take m xs) same
    cut false s =
        let g = ltb-false k 24 s in
        take_all n xs (omega (arith, c.zone_long)) ∙ sym (take_all k xs (omega (arith, c.zone_long)))
