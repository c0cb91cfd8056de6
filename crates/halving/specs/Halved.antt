-- A search by halves: what it answers, and why each of its steps is right.
use Rattle.std.specs.Prelude.{◌≡◌, refl, ◌⊎◌, Bool, true, false, List, [], ◌∷◌, map, ℕ, zero, suc, ◌≤◌, ◌<◌, min, ℤ, pos, ◌+ℤ◌, length, get_or, set, ◌≤ℤ◌, ◌<ℤ◌}
use Rattle.std.specs.Prelude.{Some, None, is_some}
use Rattle.std.proofs.Common.{sym, ap, ◌∙◌, inl, inr, arith}
use Rattle.std.proofs.Math.Option.{none}
use Rattle.std.specs.Int.Signed.{le_z}
use Rattle.integer.specs.Apart.{apart}
use Rattle.integer.specs.Order.{le_z_true, le_z_false}
use Rattle.integer.specs.Split.{split, split-all}
use Rattle.expr.specs.Affine.{Affine}
use Rattle.expr.specs.Ranges.{In, Inside}
use Rattle.expr.specs.Records.{PARAMETERS, places_from, blank_range}
use Rattle.expr.specs.declared.number.Valuation.{Valuation}
use Rattle.expr.specs.declared.range.Range.{Range}
use Rattle.corners.specs.Boxes.{low_of, Points}
use Rattle.corners.specs.BoxLaws.{points_all}
use Rattle.first_met.specs.Solutions.{Solution}
use Rattle.inequalities.specs.Flat.{exprs_in}
use Rattle.narrowing.specs.Cut.{Within}
use Rattle.systems.specs.Boxes.{Narrows}
use Rattle.systems.specs.BoxLaws.{first_narrows, first_listed, first_nothing, within_inside, within_set}
use Rattle.systems.specs.BoxLaws.{corner_inside, one_corner, places_all, clamped}
use Rattle.valuations.specs.SearchLaws.{first_none, width_suc}
use Rattle.valuations.specs.Valuations.{satisfies, first, width}
use Rattle.widths.specs.Halves.{lower_of, upper_of, lower_in, upper_in, halves_in}

-- a valuation of the ranges that meets the inequalities, or that there is none
pub record Found (rs : List Range) (es : List Affine) (s : Solution) : Type 0 where
  pub yes : (v : Valuation) → s ≡ Some v → Inside v.numbers rs × (satisfies es v.numbers ≡ true)
  pub no : s ≡ None → first rs es ≡ none

-- no range has more numbers than the one at w
pub record Widest (w : ℕ) (rs : List Range) : Type 0 where
  pub place : w < PARAMETERS
  pub widest : (j : ℕ) → j < PARAMETERS → width (get_or rs j blank_range) ≤ width (get_or rs w blank_range)

-- ---- in one of the halves
inside_split : (w : ℕ) (v : List ℤ) (cs : List Range) (a b : Range)
    → ((x : ℤ) → In x (get_or cs w blank_range) → In x a ⊎ In x b) → Inside v cs → Inside v (set cs w a) ⊎ Inside v (set cs w b)
inside_split w [] [] a b h i = inl tt
inside_split w [] (c ∷ cs) a b h i = absurd i
inside_split w (x ∷ v) [] a b h i = absurd i
inside_split zero (x ∷ v) (c ∷ cs) a b h i = by (h x i.0)
  where
    by : In x a ⊎ In x b → (In x a × Inside v cs) ⊎ (In x b × Inside v cs)
    by (inl k) = inl (k, i.1)
    by (inr k) = inr (k, i.1)
inside_split (suc w) (x ∷ v) (c ∷ cs) a b h i = by (inside_split w v cs a b h i.1)
  where
    by : Inside v (set cs w a) ⊎ Inside v (set cs w b) → (In x c × Inside v (set cs w a)) ⊎ (In x c × Inside v (set cs w b))
    by (inl k) = inl (i.0, k)
    by (inr k) = inr (i.0, k)

-- ---- ranges of one number at most
one_at_most : (r : Range) → width r ≤ 1 → r.high ≤ℤ r.low
one_at_most r h = by (le_z r.high r.low) refl
  where
    next : (l h : ℤ) → l <ℤ h → (l +ℤ pos 1) ≤ℤ h
    next l h = rw (split l, split h) (simp split-all (omega arith))

    weak : (l h : ℤ) → l <ℤ h → l ≤ℤ h
    weak l h = rw (split l, split h) (simp split-all (omega arith))

    by : (b : Bool) → le_z r.high r.low ≡ b → r.high ≤ℤ r.low
    by true e = le_z_true e
    by false e =
        let k : r.low <ℤ r.high = le_z_false e in
        absurd
        (omega (
          arith,
          width_suc r.low r.high (weak r.low r.high k),
          width_suc (r.low +ℤ pos 1) r.high
              (next r.low r.high k),
        ))

pub widest_points : (w : ℕ) (rs : List Range) → Widest w rs → width (get_or rs w blank_range) ≤ 1 → Points PARAMETERS rs
widest_points w rs h k =
    points_all PARAMETERS rs (λ j g. one_at_most (get_or rs j blank_range) (omega (arith, h.widest j g)))

-- ---- the steps of the search
nothing_there : (s : Solution) → is_some s ≡ false → s ≡ None
nothing_there None h = refl
nothing_there (Some v) h = apart cc

pub some_none : (rs : List Range) (es : List Affine) → first rs es ≡ none → Found rs es None
some_none rs es h = record { yes = λ v e. apart cc; no = λ e. h }

module _ (es : List Affine) (rs cs : List Range) (h : Narrows es rs cs) where
  -- the corner does not lie in the box
  pub some_emptied : (u : List ℤ) → u ≡ map low_of cs → (Inside u cs → ⊥) → Found rs es None
  some_emptied u e k =
      some_none rs es (first_narrows es rs cs h ∙ first_nothing cs es (λ v i. absurd (k (rw e (corner_inside v cs i)))))

  -- the corner meets the inequalities
  pub some_cornered : (v : Valuation) → Inside v.numbers cs → satisfies es v.numbers ≡ true
      → Found rs es (Some v)
  some_cornered v i m = record {
    yes = λ u e. let same : v ≡ u = cc in rw (← same) (within_inside v.numbers cs rs h.within i, m);
    no = λ e. apart cc;
  }

  -- one valuation is left, and it does not
  pub some_pointed : (u : List ℤ) → u ≡ map low_of cs → length cs ≡ PARAMETERS → Points PARAMETERS cs → satisfies es u ≡ false
      → Found rs es None
  some_pointed u e l p k =
      let m : satisfies es (map low_of cs) ≡ false = ap (satisfies es) (sym e) ∙ k in
      some_none rs es
      (first_narrows es rs cs h
      ∙ first_nothing cs es (λ v i. ap (satisfies es) (one_corner PARAMETERS cs v (omega (arith, l)) p i) ∙ m))

  module _ (w n : ℕ) (r : Range) (at-w : r ≡ get_or cs w blank_range) (few : 0 < n) (more : n < width r) where
    within_lower : Within (set cs w (lower_of r n)) cs
    within_lower = within_set w cs (lower_of r n) (λ x i. rw at-w at (lower_in r n few more x i))

    within_upper : Within (set cs w (upper_of r n)) cs
    within_upper = within_set w cs (upper_of r n) (λ x i. rw at-w at (upper_in r n few more x i))

    -- the lower half has one
    pub some_lower : (s : Solution) → Found (set cs w (lower_of r n)) es s → is_some s ≡ true → Found rs es s
    some_lower s k f = record {
      yes = λ v e. (
        within_inside v.numbers cs rs h.within (within_inside v.numbers (set cs w (lower_of r n)) cs within_lower (k.yes v e).0),
        (k.yes v e).1,
      );
      no = λ e. let g : is_some s ≡ false = ap is_some e in apart cc;
    }

    -- it has none
    pub some_upper : (s t : Solution) → Found (set cs w (lower_of r n)) es s → is_some s ≡ false → Found (set cs w (upper_of r n)) es t
        → Found rs es t
    some_upper s t k f g = record {
      yes = λ v e. (
        within_inside v.numbers cs rs h.within (within_inside v.numbers (set cs w (upper_of r n)) cs within_upper (g.yes v e).0),
        (g.yes v e).1,
      );
      no = λ e. first_narrows es rs cs h ∙ first_nothing cs es (λ v i. by v e
          (inside_split w v cs (lower_of r n) (upper_of r n) (λ x j. halves_in r n few more x (rw (sym at-w) at j)) i));
    }
      where
        by : (v : List ℤ) → t ≡ None → Inside v (set cs w (lower_of r n)) ⊎ Inside v (set cs w (upper_of r n))
            → satisfies es v ≡ false
        by v e (inl i) = first_none (set cs w (lower_of r n)) es (k.no (nothing_there s f)) v i
        by v e (inr i) = first_none (set cs w (upper_of r n)) es (g.no e) v i

-- ---- over the list that contracts have
pub some_listed : (rs : List Range) (l : List ℤ) (n m : ℕ) (s : Solution) → m ≡ min n (length l) → length rs ≡ PARAMETERS
    → Found rs (exprs_in l m) s → Found (places_from blank_range rs 0 PARAMETERS) (exprs_in l n) s
some_listed rs l n m s e h k = record {
  yes = λ v f. (rw (places_all blank_range rs h) (k.yes v f).0, rw (clamped l n v.numbers, sym e) (k.yes v f).1);
  no = λ f. sym (first_listed rs l n m e h) ∙ k.no f;
}
