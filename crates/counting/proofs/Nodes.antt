-- What a step of the count says: the box after the cuts is empty, or no inequality is left in it, or it is one valuation, or it is gone
-- over number by number.
use mathlib.Core.Path.{◌≡◌, refl, sym, ap, ◌∙◌}
use mathlib.Core.Bool.{Bool, true, false}
use mathlib.Core.List.{List, map}
use Prim.Native.Nat.{ℕ, ◌+◌, ◌-◌, ◌≤◌, ◌<◌, min}
use native.Mathlib.Omega.{arith}
use lib.Dec.{eqb}
use lib.IntN.{ℤ, pos, ◌+ℤ◌}
use lib.ListN.{length, get_or, set}
use borrow.Author.Tests.{eqb-true, eqb-false}
use Rattle.expr.specs.Affine.{Affine}
use Rattle.expr.specs.Records.{PARAMETERS, places_from, blank_range}
use Rattle.expr.specs.declared.range.Range.{Range}
use Rattle.corners.specs.Boxes.{low_of, point_of, Points, Wide}
use Rattle.inequalities.specs.Flat.{exprs_from, exprs_in}
use Rattle.systems.specs.Boxes.{Narrows, Never}
use Rattle.picking.specs.AnyPlace.{count_any}
use Rattle.picking.specs.Wides.{wides, wides_within, wides_put}
use Rattle.systems.specs.BoxLaws.{count_narrows, count_nothing, count_all, count_empty, count_listed, one_corner}
use Rattle.valuations.specs.SearchLaws.{total}
use Rattle.valuations.specs.Valuations.{satisfies, count, width, widths}
use Rattle.widths.specs.Cap.{CAP}
use Rattle.sifting.specs.Sifting.{Sifted, count_sifted, put_inside}
use Rattle.valuations.specs.Totals.{total_start, total_split, total_end}

-- no inequality is asked
none_asked : (l : List ℤ) (k : ℕ) (v : List ℤ) → k ≡ 0 → satisfies (exprs_in l k) v ≡ true
unfolding satisfies exprs_from
none_asked l k v z = rw z refl

module _ (es : List Affine) (rs cs : List Range) (h : Narrows es rs cs) where
  pub count_emptied : (v : ℕ) → v ≡ min (widths cs) CAP → v ≡ 0 → 0 ≡ min (count rs es) CAP
  count_emptied v e k =
      let q : count rs es ≡ 0 = count_narrows es rs cs h ∙ count_empty cs es (omega arith) in
      omega arith

  -- none of them is left in the box
  pub count_sifted_out : (v k : ℕ) (l : List ℤ) → v ≡ min (widths cs) CAP → k ≡ 0 → (k ≤ 25 → Sifted es (exprs_in l k) cs)
      → v ≡ min (count rs es) CAP
  count_sifted_out v k l e z s =
      let g : k ≤ 25 = omega arith in
      let q : count rs es ≡ widths cs = count_narrows es rs cs h ∙ count_all cs es (λ u i. (s g).same u i ∙ none_asked l k u z) in
      e ∙ ap (λ (y : ℕ). min y CAP) (sym q)

  pub count_ended : (t : ℕ) → t ≡ min (count cs es) CAP → t ≡ min (count rs es) CAP
  count_ended t e = e ∙ ap (λ (z : ℕ). min z CAP) (sym (count_narrows es rs cs h))

-- a box of one valuation at most, which meets the inequalities, or not
module _ (es : List Affine) (cs : List Range) (w : ℕ) (u : List ℤ) (f : u ≡ map low_of cs) (l : length cs ≤ w) (p : Points w cs) where
  pub single_met : (v : ℕ) → v ≡ min (widths cs) CAP → satisfies es u ≡ true → v ≡ min (count cs es) CAP
  single_met v e k =
      let m : satisfies es (map low_of cs) ≡ true = ap (satisfies es) (sym f) ∙ k in
      let q : count cs es ≡ widths cs = count_all cs es (λ x i. ap (satisfies es) (one_corner w cs x l p i) ∙ m) in
      e ∙ ap (λ (z : ℕ). min z CAP) (sym q)

  pub single_not : satisfies es u ≡ false → 0 ≡ min (count cs es) CAP
  single_not k =
      let m : satisfies es (map low_of cs) ≡ false = ap (satisfies es) (sym f) ∙ k in
      let q : count cs es ≡ 0 = count_nothing cs es (λ x i. ap (satisfies es) (one_corner w cs x l p i) ∙ m) in
      omega arith

-- a count that is small
pub count_small : (r n : ℕ) → r ≡ n → r ≤ 4294967296 → r ≡ min n CAP
count_small r n e h = omega arith

-- a box with a valuation
pub some_width : (cs : List Range) (v : ℕ) → v ≡ min (widths cs) CAP → (v ≡ 0 → ⊥) → 0 < widths cs
some_width cs v e k = by (eqb (widths cs) 0) refl
  where
    by : (b : Bool) → eqb (widths cs) 0 ≡ b → 0 < widths cs
    by true q = absurd (k (omega (arith, eqb-true (widths cs) 0 q)))
    by false q = omega (arith, eqb-false (widths cs) 0 q)

abbrev pub count_at : List Affine → List Range → ℕ → ℤ → ℕ
count_at es cs w = λ (x : ℤ). count (set cs w (point_of x)) es

module _ (es : List Affine) (cs : List Range) (w : ℕ) (r : Range) (n : ℕ) where
  pub count_begin : w < length cs → r ≡ get_or cs w blank_range → n ≡ width r
      → min (0 + total (count_at es cs w) (r.low +ℤ pos 0) (n - 0)) CAP ≡ min (count cs es) CAP
  count_begin l e f = ap (λ (z : ℕ). min z CAP) (total_start (count_at es cs w) r.low n ∙ rw (f, e) (sym (count_any w cs es l)))

-- fewer ranges have several numbers where one is put in for one of them
pub fewer_wide : (es : List Affine) (rs cs : List Range) (w : ℕ) (q : Range) (x : ℤ) → Narrows es rs cs → w < length cs → Wide w cs
    → q ≡ point_of x → wides (set cs w q) < wides rs
fewer_wide es rs cs w q x h l g e = rw e (omega (arith, wides_put w cs x l g, wides_within cs rs h.within))

-- the sum over what is left of a range (its name, where a local has that of `total`)
abbrev pub total_of : (ℤ → ℕ) → ℤ → ℕ → ℕ
total_of = total

module _ (es : List Affine) (cs : List Range) (w : ℕ) (r : Range) (n i t : ℕ) where
  -- one number more is counted
  pub count_more : (u k : ℕ) (q : Range) → i < n → q ≡ point_of (r.low +ℤ pos i) → k ≡ min (count (set cs w q) es) CAP → u ≡ min (t + k) CAP
      → min (t + total (count_at es cs w) (r.low +ℤ pos i) (n - i)) CAP ≡ min (count cs es) CAP
      → min (u + total (count_at es cs w) (r.low +ℤ pos (i + 1)) (n - (i + 1))) CAP ≡ min (count cs es) CAP
  count_more u k q h e f g z =
      let s = total_split (count_at es cs w) r.low n i h in
      let y : k ≡ min (count_at es cs w (r.low +ℤ pos i)) CAP = f ∙ ap (λ (x : Range). min (count (set cs w x) es) CAP) e in
      omega arith

  pub count_done : n ≤ i → t ≤ CAP → min (t + total (count_at es cs w) (r.low +ℤ pos i) (n - i)) CAP ≡ min (count cs es) CAP
      → t ≡ min (count cs es) CAP
  count_done h l z =
      let s = total_end (count_at es cs w) r.low n i h in
      omega arith

-- the count of a box with a number put in, by the inequalities that a sift kept
pub count_kept : (es fs : List Affine) (cs : List Range) (w i k : ℕ) (q : Range) → Sifted es fs cs
    → q ≡ point_of ((get_or cs w blank_range).low +ℤ pos i) → i < width (get_or cs w blank_range) → k ≡ min (count (set cs w q) fs) CAP
    → k ≡ min (count (set cs w q) es) CAP
count_kept es fs cs w i k q s e h f = f ∙ ap (λ (z : ℕ). min z CAP) (count_sifted es fs cs (set cs w q) s (put_inside cs w i q e h))

-- ---- no valuation meets the inequalities
pub count_never : (rs : List Range) (l : List ℤ) (n m : ℕ) → m ≡ min n (length l) → length rs ≡ PARAMETERS → Never (exprs_in l m)
    → 0 ≡ min (count (places_from blank_range rs 0 PARAMETERS) (exprs_in l n)) CAP
count_never rs l n m e h k =
    ap (λ (z : ℕ). min z CAP) (sym (count_nothing rs (exprs_in l m) (λ v i. k.none v)) ∙ count_listed rs l n m e h)
