-- The turns of the loops over the ranges.
use mathlib.Core.Path.{◌≡◌, refl, sym, ◌∙◌}
use Rattle.std.specs.Prelude.{Option, Some, None}
use mathlib.Core.Bool.{Bool, true, false}
use mathlib.Core.List.{List}
use Prim.Native.Nat.{ℕ, ◌+◌, ◌<◌}
use native.Mathlib.Omega.{arith}
use lib.Dec.{ltb}
use lib.IntN.{ℤ}
use lib.ListN.{get_or}
use lib.Signed.{lt_z, ◌≤ℤ◌, ◌<ℤ◌}
use borrow.Author.Tests.{ltb-true, ltb-false}
use Rattle.integer.specs.Order.{lt_z_true, lt_z_false}
use Rattle.expr.specs.Records.{PARAMETERS, blank_range}
use Rattle.expr.specs.declared.range.Range.{Range}
use Rattle.corners.specs.Boxes.{Points, Wide, wide_from}
use Rattle.corners.specs.BoxLaws.{wide_high, wide_there, none_points}

-- ---- a test on two ends, at locals that hold them
module _ (a b : ℤ) {x y : ℤ} (ex : x ≡ a) (ey : y ≡ b) where
  pub below : lt_z x y ≡ true → a <ℤ b
  below e = lt_z_true (rw (ex, ey) at e)

  pub not_below : lt_z x y ≡ false → b ≤ℤ a
  not_below e = lt_z_false (rw (ex, ey) at e)

-- ---- the first range of several numbers
pub first_wide : (rs : List Range) (w : ℕ) (o : Option ℕ) → o ≡ wide_from rs 0 PARAMETERS → o ≡ Some w → (w < PARAMETERS) × Wide w rs
first_wide rs w o e f = let found = sym e ∙ f in (wide_high rs PARAMETERS 0 w found, wide_there rs PARAMETERS 0 w found)

pub none_wide : (rs : List Range) (o : Option ℕ) → o ≡ wide_from rs 0 PARAMETERS → o ≡ None → Points PARAMETERS rs
none_wide rs o e f = none_points rs PARAMETERS 0 (sym e ∙ f) tt

-- ---- one range more has one number at most, or is one of the two
pub two_more : (rs : List Range) (w t i : ℕ)
    → ((j : ℕ) → j < i → (j ≡ w → ⊥) → (j ≡ t → ⊥) → (get_or rs j blank_range).high ≤ℤ (get_or rs j blank_range).low)
    → ((i ≡ w → ⊥) → (i ≡ t → ⊥) → (get_or rs i blank_range).high ≤ℤ (get_or rs i blank_range).low)
    → (j : ℕ) → j < i + 1 → (j ≡ w → ⊥) → (j ≡ t → ⊥) → (get_or rs j blank_range).high ≤ℤ (get_or rs j blank_range).low
two_more rs w t i h k j g p q = by (ltb j i) refl
  where
    by : (b : Bool) → ltb j i ≡ b → (get_or rs j blank_range).high ≤ℤ (get_or rs j blank_range).low
    by true e = h j (ltb-true j i e) p q
    by false e =
        let same : j ≡ i = omega (arith, ltb-false j i e) in
        rw same (k (λ z. p (same ∙ z)) (λ z. q (same ∙ z)))
