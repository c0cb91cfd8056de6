-- A test on a flat list of a zone's inequalities, over ranges that they have narrowed, is the test on the zone.
use Rattle.std.specs.Prelude.{◌≡◌, Bool, cond, ℤ, length}
use Rattle.std.proofs.Math.Path.{refl, sym, ap}
use Rattle.std.proofs.Common.{subst, ◌∙◌, arith}
use Rattle.std.proofs.Math.Bool.{true, false}
use mathlib.Core.List.{List, [], ◌∷◌, map}
use Prim.Native.Nat.{ℕ, suc, ◌<◌, min}
use borrow.Author.Tests.{lt-ltb, le-ltb, ltb-true, ltb-false}
use Rattle.std.proofs.Math.Dec.{ltb}
use Rattle.std.proofs.Math.ListN.{take}
use Rattle.expr.specs.Affine.{Affine}
use Rattle.expr.specs.Ranges.{Inside}
use Rattle.expr.specs.Records.{PARAMETERS, affine, blank_range, range_list}
use Rattle.expr.specs.declared.bound.Test.{Test}
use Rattle.expr.specs.declared.bound.Test.TheVariants.{Yes, No, Ask}
use Rattle.expr.specs.declared.number.Expr.{Expr}
use Rattle.expr.specs.declared.range.Ranges.{Ranges}
use Rattle.systems.specs.Boxes.{Narrows}
use Rattle.systems.specs.BoxLaws.{first_in_narrower, narrows_listed, places_all}
use Rattle.inequalities.specs.Flat.{exprs_in}
use Rattle.valuations.specs.Valuations.{satisfies, first}
use Rattle.zones.specs.Put.{written_keeps, written_length, written_next, map_last}
use Rattle.zones.specs.Settled.{Verdict, opposite_c, is_none, never_c, on_c, settled_c, never_f, on_f, settled_f}
use Rattle.zones.specs.System.{put_in, SameRows}
use Rattle.zones.specs.declared.told.Told.{Told}
use Rattle.zones.specs.declared.told.Told.TheVariants as kinds
use Rattle.zones.specs.declared.zone.Zone.{Zone}

-- the list has the zone's inequalities and a place behind them, and the ranges c are those of b that they leave
pub record Listing (b c : Ranges) (z : Zone) (n : ℕ) (l : List ℤ) : Type 0 where
  pub counted : n ≡ min z.count 24
  pub long : length l ≡ 125
  pub same : exprs_in l n ≡ map affine (take z.count z.ineqs)
  pub narrows : Narrows (map affine (take z.count z.ineqs)) (range_list b) (range_list c)

-- a test that is written behind them
pub listing_put : (b c : Ranges) (z : Zone) (n : ℕ) (l : List ℤ) (e : Expr) → Listing b c z n l → Listing b c z n (put_in l n e)
listing_put b c z n l e h =
    let few : n < 25 = omega (arith, h.counted) in
    record {
      counted = h.counted;
      long = written_length l n e few h.long;
      same = written_keeps l n e few h.long ∙ h.same;
      narrows = h.narrows;
    }

pub listing_same : (b c : Ranges) (z : Zone) (n : ℕ) (l m : List ℤ) → SameRows n l m → Listing b c z n l → Listing b c z n m
listing_same b c z n l m s h =
    record { counted = h.counted; long = s.long ∙ h.long; same = s.rows ∙ h.same; narrows = h.narrows }

module _ (b c : Ranges) (z : Zone) (n : ℕ) where
  pub never_same : (l : List ℤ) (e : Expr) → Listing b c z n l → never_f c l n e ≡ never_c b z e
  unfolding never_f never_c
  never_same l e h =
      let xs = take z.count z.ineqs in
      let few : n < 25 = omega (arith, h.counted) in
      let all : min n 24 ≡ n = omega (arith, h.counted) in
      ap (λ (k : ℕ). is_none (first (range_list c) (exprs_in (put_in l n e) (suc k)))) all
      ∙ ap (λ (es : List Affine). is_none (first (range_list c) es)) (written_next l n e few h.long xs h.same ∙ map_last xs e)
      ∙ ap is_none (first_in_narrower (map affine xs) (affine e ∷ []) (range_list b) (range_list c) h.narrows)
      ∙ ap (λ (es : List Affine). is_none (first (range_list b) es)) (sym (map_last xs e))

  pub on_same : (l : List ℤ) (e : Expr) → Listing b c z n l → on_f c l n e ≡ (on_c b z e).kind
  unfolding on_f on_c
  on_same l e h =
      rw (never_same l e h, never_same (put_in l n e) (opposite_c e) (listing_put b c z n l e h), room (ltb z.count 24) refl)
      (by (never_c b z e) (never_c b z (opposite_c e)) (ltb z.count 24))
    where
      room : (t : Bool) → ltb z.count 24 ≡ t → ltb n 24 ≡ ltb z.count 24
      room true s = lt-ltb n 24 (omega (arith, h.counted, ltb-true z.count 24 s)) ∙ sym s
      room false s = le-ltb n 24 (omega (arith, h.counted, ltb-false z.count 24 s)) ∙ sym s

      of : Told → Verdict
      of k = record { kind = k; test = e }

      by : (r s t : Bool)
          → cond r kinds.No (cond s kinds.Yes (cond t kinds.Split kinds.Full))
          ≡ (cond {A = Verdict} r (of kinds.No) (cond s (of kinds.Yes) (cond t (of kinds.Split) (of kinds.Full)))).kind
      by true s t = refl
      by false true t = refl
      by false false true = refl
      by false false false = refl

  pub settled_same : (l : List ℤ) (t : Test) → Listing b c z n l → settled_f c l n t ≡ (settled_c b z t).kind
  unfolding settled_f
  settled_same l Yes h = refl
  settled_same l No h = refl
  settled_same l (Ask e) h = on_same l e h

-- what a zone's inequalities leave, as a flat list of them says it
pub narrows_zone : (b c : Ranges) (z : Zone) (n : ℕ) (l : List ℤ) → exprs_in l n ≡ map affine (take z.count z.ineqs)
    → length b.list ≡ PARAMETERS → Narrows (exprs_in l n) b.list c.list
    → Narrows (map affine (take z.count z.ineqs)) (range_list b) (range_list c)
narrows_zone b c z n l s g m = rw (sym s) (narrows_listed (exprs_in l n) b c g m)

-- a valuation that a zone holds, as a flat list of its inequalities says it
pub holds_zone : (c : Ranges) (z : Zone) (n : ℕ) (l v : List ℤ) → exprs_in l n ≡ map affine (take z.count z.ineqs)
    → length c.list ≡ PARAMETERS → Inside v c.list × (satisfies (exprs_in l n) v ≡ true)
    → Inside v (range_list c) × (satisfies (map affine (take z.count z.ineqs)) v ≡ true)
holds_zone c z n l v s g h = (
  subst (Inside v) (sym (places_all blank_range c.list g)) h.0,
  subst (λ (es : List Affine). satisfies es v ≡ true) s h.1,
)
