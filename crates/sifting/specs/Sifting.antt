-- Inequalities that hold throughout a box may be left out there; those left are written one after another into a flat list.
use Rattle.std.specs.Prelude.{◌≡◌, Bool, true, false, ◌&&◌, ltb, pos, ◌+ℤ◌, length, ◌≤ℤ◌, ◌<ℤ◌}
use Rattle.std.proofs.Math.Path.{refl, ap}
use Rattle.std.proofs.Common.{sym, ◌∙◌}
use mathlib.Core.List.{List, map}
use Prim.Native.Nat.{ℕ, zero, suc, ◌+◌, ◌≤◌, ◌<◌}
use Rattle.std.proofs.Math.Numerals.{add-one}
use native.Mathlib.Omega.{arith}
use borrow.Author.Tests.{ltb-true, ltb-false}
use Rattle.std.proofs.Math.IntN.{ℤ}
use Rattle.std.proofs.Math.ListN.{get_or, set}
use Rattle.std.specs.Int.Signed.{le_z}
use Rattle.integer.specs.Order.{true_le_z, ≤ℤ-antisym}
use Rattle.integer.specs.Split.{split, split-all}
use Rattle.expr.specs.Affine.{Affine, value}
use Rattle.expr.specs.Ranges.{In, Inside}
use Rattle.expr.specs.Records.{affine, blank_range}
use Rattle.expr.specs.declared.number.Expr.{Expr}
use Rattle.expr.specs.declared.range.Range.{Range}
use Rattle.corners.specs.Boxes.{turn, point_of}
use Rattle.inequalities.specs.Flat.{expr_at, exprs_from, exprs_in, put_in}
use Rattle.inequalities.specs.Put.{put_past, written_at, exprs_before, written_length}
use Rattle.narrowing.specs.Best.{best_of}
use Rattle.systems.specs.BoxLaws.{turned_one, within_inside, within_set}
use Rattle.valuations.specs.SearchLaws.{first_same, count_same, valuations_inside, width_in}
use Rattle.valuations.specs.Valuations.{satisfies, valuations, first, count, width}

-- in the box a valuation meets the inequalities es exactly if it meets fs
pub record Sifted (es fs : List Affine) (rs : List Range) : Type 0 where
  pub same : (v : List ℤ) → Inside v rs → satisfies es v ≡ satisfies fs v

-- ---- one inequality more is asked
and_assoc : (a b c : Bool) → (a && (b && c)) ≡ ((a && b) && c)
and_assoc true b c = refl
and_assoc false b c = refl

and_end : (a : Bool) → (a && true) ≡ a
and_end true = refl
and_end false = refl

met_next : (l : List ℤ) (n j : ℕ) (v : List ℤ)
    → satisfies (exprs_from l j (suc n)) v ≡ (satisfies (exprs_from l j n) v && le_z (pos 0) (value (expr_at l (j + n)) v))
unfolding satisfies exprs_from
met_next l zero j v =
    let e : j + 0 ≡ j = omega arith in
    rw e (and_end (le_z (pos 0) (value (expr_at l j) v)))
met_next l (suc n) j v =
    let e : suc j + n ≡ j + suc n = omega arith in
    ap (λ (b : Bool). le_z (pos 0) (value (expr_at l j) v) && b)
    (met_next l n (suc j) v ∙ ap (λ (i : ℕ). satisfies (exprs_from l (suc j) n) v && le_z (pos 0) (value (expr_at l i) v)) e)
    ∙ and_assoc (le_z (pos 0) (value (expr_at l j) v)) (satisfies (exprs_from l (suc j) n) v) (le_z (pos 0) (value (expr_at l (j + suc n)) v))

met_last : (l : List ℤ) (n : ℕ) (v : List ℤ)
    → satisfies (exprs_in l (n + 1)) v ≡ (satisfies (exprs_in l n) v && le_z (pos 0) (value (expr_at l n) v))
met_last l n v =
    let e : 0 + n ≡ n = omega arith in
    ap (λ (i : ℕ). satisfies (exprs_in l i) v) (add-one n) ∙ met_next l n 0 v
    ∙ ap (λ (i : ℕ). satisfies (exprs_in l n) v && le_z (pos 0) (value (expr_at l i) v)) e

-- ---- the first k inequalities are sifted by a box whose ranges, their ends exchanged, are ts; m of them are kept
pub record SiftedTo (l : List ℤ) (n : ℕ) (ts : List Range) (kept : List ℤ) (m k : ℕ) : Type 0 where
  pub few : k ≤ n
  pub fewer : m ≤ k
  pub long : length kept ≡ 125
  pub same : (rs : List Range) → ts ≡ map turn rs → m ≤ 25 → Sifted (exprs_in l k) (exprs_in kept m) rs

module _ (l : List ℤ) (n : ℕ) (ts : List Range) (kept : List ℤ) where
  pub sifted_start : length kept ≡ 125 → SiftedTo l n ts kept 0 0
  unfolding exprs_from
  sifted_start h = record { few = omega arith; fewer = omega arith; long = h; same = λ rs e g. record { same = λ v i. refl } }

  module _ (m k : ℕ) (s : SiftedTo l n ts kept m k) (h : k < n) (e : Expr) (at-k : affine e ≡ expr_at l k) where
    -- an inequality that holds throughout is left out
    pub sifted_skip : (x : ℤ) → x ≡ best_of (affine e) ts → pos 0 ≤ℤ x → SiftedTo l n ts kept m (k + 1)
    sifted_skip x q g = record {
      few = omega arith;
      fewer = omega (arith, s.fewer);
      long = s.long;
      same = λ rs f c. record { same = λ v i. met_last l k v ∙ whole rs f v i ∙ (s.same rs f c).same v i };
    }
      where
        holds : (rs : List Range) → ts ≡ map turn rs → (v : List ℤ) → Inside v rs → pos 0 ≤ℤ value (expr_at l k) v
        holds rs f v i = rw (sym at-k) (turned_one (affine e) rs (rw (q ∙ ap (best_of (affine e)) f) at g) v i)

        whole : (rs : List Range) → ts ≡ map turn rs → (v : List ℤ) → Inside v rs
            → (satisfies (exprs_in l k) v && le_z (pos 0) (value (expr_at l k) v)) ≡ satisfies (exprs_in l k) v
        whole rs f v i =
            ap (λ (b : Bool). satisfies (exprs_in l k) v && b) (true_le_z (holds rs f v i)) ∙ and_end (satisfies (exprs_in l k) v)

    -- another is written behind those that are kept
    pub sifted_keep : (list : List ℤ) → list ≡ put_in kept m e → SiftedTo l n ts list (m + 1) (k + 1)
    sifted_keep list q = record {
      few = omega arith;
      fewer = omega (arith, s.fewer);
      long = ap length q ∙ still (ltb m 25) refl;
      same = λ rs f c. record {
        same = λ v i. met_last l k v ∙ kept_too rs f v i (omega arith) ∙ ap (λ (z : List ℤ). satisfies (exprs_in z (m + 1)) v) (sym q);
      };
    }
      where
        still : (b : Bool) → ltb m 25 ≡ b → length (put_in kept m e) ≡ 125
        still true f = written_length kept m e (omega (arith, ltb-true)) s.long
        still false f = ap length (put_past kept m e (omega (arith, ltb-false))) ∙ s.long

        kept_too : (rs : List Range) → ts ≡ map turn rs → (v : List ℤ) → Inside v rs → m < 25
            → (satisfies (exprs_in l k) v && le_z (pos 0) (value (expr_at l k) v)) ≡ satisfies (exprs_in (put_in kept m e) (m + 1)) v
        kept_too rs f v i g =
            let c : m ≤ 25 = omega arith in
            ap (λ (b : Bool). b && le_z (pos 0) (value (expr_at l k) v)) ((s.same rs f c).same v i)
            ∙ ap (λ (a : Affine). satisfies (exprs_in kept m) v && le_z (pos 0) (value a v)) (sym at-k)
            ∙ sym (met_last (put_in kept m e) m v
            ∙ ap (λ (es : List Affine). satisfies es v && le_z (pos 0) (value (expr_at (put_in kept m e) m) v))
            (exprs_before kept m e g s.long m 0 (omega arith))
            ∙ ap (λ (a : Affine). satisfies (exprs_in kept m) v && le_z (pos 0) (value a v)) (written_at kept m e g s.long))

  pub sifted_all : (m k : ℕ) (rs : List Range) → SiftedTo l n ts kept m k → n ≤ k → ts ≡ map turn rs → m ≤ 25
      → Sifted (exprs_in l n) (exprs_in kept m) rs
  sifted_all m k rs s h f g =
      let e : k ≡ n = omega (arith, s.few) in
      rw e at (s.same rs f g)

-- ---- the answers are the same
pub count_sifted : (es fs : List Affine) (rs ss : List Range) → Sifted es fs rs → ((v : List ℤ) → Inside v ss → Inside v rs)
    → count ss fs ≡ count ss es
unfolding count
count_sifted es fs rs ss h k =
    count_same (satisfies fs) (satisfies es) (valuations ss) (λ v m. sym (h.same v (k v (valuations_inside ss v m))))

pub first_sifted : (es fs : List Affine) (rs ss : List Range) → Sifted es fs rs → ((v : List ℤ) → Inside v ss → Inside v rs)
    → first ss fs ≡ first ss es
unfolding first
first_sifted es fs rs ss h k =
    first_same (satisfies fs) (satisfies es) (valuations ss) (λ v m. sym (h.same v (k v (valuations_inside ss v m))))

-- a number of a range put in
up : (x : ℤ) (i : ℕ) → x ≤ℤ (x +ℤ pos i)
up x i = rw (split x) (simp split-all (omega arith))

under : (x : ℤ) (i n : ℕ) → i < n → (x +ℤ pos i) <ℤ (x +ℤ pos n)
under x i n = rw (split x) (simp split-all (omega arith))

point_inside : (r : Range) (i : ℕ) → i < width r → (x : ℤ) → In x (point_of (r.low +ℤ pos i)) → In x r
point_inside r i h x k =
    let y = r.low +ℤ pos i in
    let e : x ≡ y = ≤ℤ-antisym k.most k.least in
    rw e ((width_in r y).1 (up r.low i, under r.low i (width r) h))

pub put_inside : (rs : List Range) (w i : ℕ) (q : Range) → q ≡ point_of ((get_or rs w blank_range).low +ℤ pos i)
    → i < width (get_or rs w blank_range)
    → (v : List ℤ) → Inside v (set rs w q) → Inside v rs
put_inside rs w i q e h v k =
    within_inside v (set rs w q) rs (within_set w rs q (λ x m. point_inside (get_or rs w blank_range) i h x (rw e at m))) k
