-- What a step of the search says: the box after the cuts is empty, or met at its corner, or one valuation, or it is gone over number by
-- number.
use mathlib.Core.Path.{◌≡◌, refl, sym, ap, ◌∙◌}
use mathlib.Core.Bool.{Bool, true, false, not}
use mathlib.Core.List.{List, map}
use mathlib.Core.Option.{Option, none, some}
use Rattle.std.specs.Prelude.{Some, is_some}
use Prim.Native.Nat.{ℕ, ◌+◌, ◌-◌, ◌≤◌, ◌<◌}
use native.Mathlib.Numerals.{add-one}
use native.Mathlib.Omega.{arith}
use lib.IntN.{ℤ, pos, ◌+ℤ◌}
use lib.ListN.{length, get_or, set, length-map}
use lib.Signed.{◌≤ℤ◌, ◌<ℤ◌}
use Rattle.integer.specs.Apart.{apart}
use Rattle.integer.specs.Split.{split, split-all}
use Rattle.expr.specs.Affine.{Affine}
use Rattle.expr.specs.Ranges.{Inside}
use Rattle.expr.specs.Records.{PARAMETERS, four, blank_range}
use Rattle.expr.specs.declared.number.Valuation.{Valuation}
use Rattle.expr.specs.declared.range.Range.{Range}
use Rattle.corners.specs.Boxes.{low_of, point_of, Points}
use Rattle.systems.specs.Boxes.{Narrows, Never}
use Rattle.systems.specs.BoxLaws.{first_narrows, first_nothing, first_place, corner_inside}
use Rattle.systems.specs.BoxLaws.{corner_first, one_corner, points_set, places_all}
use Rattle.valuations.specs.SearchLaws.{first_over, or_else, width_suc}
use Rattle.valuations.specs.Valuations.{satisfies, first, width}
use Rattle.first_met.specs.Solutions.{Solution, solution_of}
use Rattle.widths.specs.Halves.{lower_of, upper_of}
use Rattle.first_met.specs.Halves.{first_parts}
use Rattle.first_met.proofs.Loops.{first_start, first_turn}

pub not_yes : (b : Bool) → not b ≡ true → b ≡ false
not_yes true h = sym h
not_yes false h = refl

pub not_no : (b : Bool) → not b ≡ false → b ≡ true
not_no true h = refl
not_no false h = sym h

-- ---- the first
module _ (es : List Affine) (rs cs : List Range) (h : Narrows es rs cs) where
  -- the corner does not lie in the box
  pub first_emptied : (u : List ℤ) → u ≡ map low_of cs → (Inside u cs → ⊥) → solution_of none ≡ solution_of (first rs es)
  first_emptied u e k =
      ap solution_of (sym (first_narrows es rs cs h ∙ first_nothing cs es (λ v i. absurd (k (rw e (corner_inside v cs i))))))

  -- the corner meets the inequalities
  pub first_cornered : (v : Valuation) → v.numbers ≡ map low_of cs → length v.numbers ≡ PARAMETERS → Inside v.numbers cs
      → satisfies es v.numbers ≡ true → ◌≡◌ {A = Solution} (Some v) (solution_of (first rs es))
  first_cornered v e l i m =
      let q : first rs es ≡ some (map low_of cs) = first_narrows es rs cs h ∙ corner_first cs es (rw e at i) (rw e at m) in
      found_path v.numbers (four v.numbers) (sym (places_all (pos 0) v.numbers l)) ∙ ap (λ (u : List ℤ). solution_of (some u))
      e ∙ ap solution_of (sym q)
    where
      found_path : (a b : List ℤ) → a ≡ b
          → ◌≡◌ {A = Solution} (Some (record { numbers = a })) (Some (record { numbers = b }))
      found_path a b e = ap (λ (u : List ℤ). Some (record { numbers = u })) e

  -- one valuation is left, and it does not
  pub first_pointed : (w : ℕ) (u : List ℤ) → u ≡ map low_of cs → length cs ≤ w → Points w cs → satisfies es u ≡ false
      → solution_of none ≡ solution_of (first rs es)
  first_pointed w u e l p k =
      let m : satisfies es (map low_of cs) ≡ false = ap (satisfies es) (sym e) ∙ k in
      ap solution_of (sym (first_narrows es rs cs h ∙ first_nothing cs es (λ v i. ap (satisfies es) (one_corner w cs v l p i) ∙ m)))

-- no valuation meets the inequalities
pub first_never_met : (es : List Affine) (rs : List Range) → Never es → solution_of none ≡ solution_of (first rs es)
first_never_met es rs k = ap solution_of (sym (first_nothing rs es (λ v i. k.none v)))

-- what the search finds with x put in at place w
abbrev pub first_at : List Affine → List Range → ℕ → ℤ → Option (List ℤ)
first_at es cs w = λ (x : ℤ). first (set cs w (point_of x)) es

module _ (es : List Affine) (cs : List Range) (w : ℕ) (r : Range) (n : ℕ) where
  pub first_begin : Points w cs → w < length cs → r ≡ get_or cs w blank_range → n ≡ width r
      → first_over (first_at es cs w) (r.low +ℤ pos 0) (n - 0) ≡ first cs es
  first_begin p l e f = first_start (first_at es cs w) r.low n ∙ rw (f, e) (sym (first_place w cs es p l))

  module _ (i : ℕ) (h : i < n) (s : Solution) (q : Range) (eq : q ≡ point_of (r.low +ℤ pos i))
      (es' : s ≡ solution_of (first (set cs w q) es)) (k : first_over (first_at es cs w) (r.low +ℤ pos i) (n - i) ≡ first cs es) where
    at_member : s ≡ solution_of (first_at es cs w (r.low +ℤ pos i))
    at_member = es' ∙ ap (λ (z : Range). solution_of (first (set cs w z) es)) eq

    pub first_found : is_some s ≡ true → s ≡ solution_of (first cs es)
    first_found g =
        at_member
        ∙ stop (first_at es cs w (r.low +ℤ pos i)) (first_over (first_at es cs w) (r.low +ℤ pos (i + 1)) (n - (i + 1)))
        (ap (λ (z : Solution). is_some z) (sym at_member) ∙ g)
        ∙ ap solution_of (sym (first_turn (first_at es cs w) r.low n i h) ∙ k)
      where
        stop : (o rest : Option (List ℤ)) → is_some (solution_of o) ≡ true → solution_of o ≡ solution_of (or_else o rest)
        stop none rest e = apart cc
        stop (some u) rest e = refl

-- the range that is put in has several numbers, so that its lowest is one
pub several : (r : Range) → r.low <ℤ r.high → 1 < width r
several r h =
    omega (
      arith,
      width_suc r.low r.high (weak r.low r.high h),
      width_suc (r.low +ℤ pos 1) r.high (next r.low r.high h),
    )
  where
    weak : (l h : ℤ) → l <ℤ h → l ≤ℤ h
    weak l h = rw (split l, split h) (simp split-all (omega arith))

    next : (l h : ℤ) → l <ℤ h → (l +ℤ pos 1) ≤ℤ h
    next l h = rw (split l, split h) (simp split-all (omega arith))

-- ---- a box in two parts
module _ (es : List Affine) (rs cs : List Range) (h : Narrows es rs cs) (w n : ℕ) (few : 0 < n) (more : n < width (get_or cs w blank_range))
    (l : w < length cs) (p : Points w cs) (s : Solution)
    (e : s ≡ solution_of (first (set cs w (lower_of (get_or cs w blank_range) n)) es)) where
  parts : first rs es
      ≡ or_else (first (set cs w (lower_of (get_or cs w blank_range) n)) es) (first (set cs w (upper_of (get_or cs w blank_range) n)) es)
  parts = first_narrows es rs cs h ∙ first_parts es cs w n (get_or cs w blank_range) refl few more l p

  -- the lower part has one
  pub first_lower : is_some s ≡ true → s ≡ solution_of (first rs es)
  first_lower g =
      by (first (set cs w (lower_of (get_or cs w blank_range) n)) es) (first (set cs w (upper_of (get_or cs w blank_range) n)) es) e
      (ap (λ (z : Solution). is_some z) (sym e) ∙ g)
      ∙ ap solution_of (sym parts)
    where
      by : (o t : Option (List ℤ)) → s ≡ solution_of o → is_some (solution_of o) ≡ true → s ≡ solution_of (or_else o t)
      by none t q k = apart cc
      by (some u) t q k = q

  -- it has none
  pub first_upper : (t : Solution) → is_some s ≡ false → t ≡ solution_of (first (set cs w (upper_of (get_or cs w blank_range) n)) es)
      → t ≡ solution_of (first rs es)
  first_upper t g f =
      by (first (set cs w (lower_of (get_or cs w blank_range) n)) es) (first (set cs w (upper_of (get_or cs w blank_range) n)) es) f
      (ap (λ (z : Solution). is_some z) (sym e) ∙ g)
      ∙ ap solution_of (sym parts)
    where
      by : (o u : Option (List ℤ)) → t ≡ solution_of u → is_some (solution_of o) ≡ false → t ≡ solution_of (or_else o u)
      by none u q k = q
      by (some v) u q k = apart cc

-- what is first where that range is at its lowest is first of all
pub first_lowest : (es : List Affine) (cs ds : List Range) (w : ℕ) (q : Range) (s : Solution) → Points w cs → w < length cs
    → 0 < width (get_or cs w blank_range) → q ≡ point_of ((get_or cs w blank_range).low +ℤ pos 0) → Narrows es (set cs w q) ds
    → (is_some s ≡ true → s ≡ solution_of (first ds es)) → is_some s ≡ true → s ≡ solution_of (first cs es)
first_lowest es cs ds w q s p l h e n k g =
    let r = get_or cs w blank_range in
    first_found es cs w r (width r) 0 h s q e (k g ∙ ap solution_of (sym (first_narrows es (set cs w q) ds n)))
    (first_begin es cs w r (width r) p l refl refl) g

pub corner_long : (u : List ℤ) (cs : List Range) → u ≡ map low_of cs → length cs ≡ PARAMETERS → length u ≡ PARAMETERS
corner_long u cs e l = ap length e ∙ length-map cs low_of ∙ l

-- one more place has one number
pub points_next : (w : ℕ) (cs : List Range) (q : Range) (x : ℤ) → q ≡ point_of x → Points w cs → Points (w + 1) (set cs w q)
points_next w cs q x e p = rw (add-one, e) (points_set w cs x p)
