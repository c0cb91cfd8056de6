-- The cases of the code's steps on tables, with the branches' tests.
use mathlib.Core.Path.{◌≡◌, refl, sym, ◌∙◌, ap}
use mathlib.Core.Bool.{Bool, true, false}
use Rattle.weight.specs.declared.Weight.{Weight}
use Rattle.weight_matrix.specs.Tables.{sum_c, tighter_c}
use Rattle.weight_matrix.specs.Tables.{guard_changes}
use Rattle.weight.specs.Records.{zero_weight}

-- whether a guard changes a matrix
module _ (top back was e s : Weight) (t : Bool) (h : top.strict ≡ false) (es : s ≡ sum_c e back) (et : t ≡ tighter_c s zero_weight) where
  told : (b : Bool) → t ≡ b → tighter_c (sum_c e back) zero_weight ≡ b
  told b k = sym (ap (λ (x : Weight). tighter_c x zero_weight) es) ∙ sym et ∙ k

  pub changes_cut : t ≡ true → true ≡ guard_changes top back was e
  unfolding guard_changes
  changes_cut k = rw (h, told true k) refl

  pub changes_was : t ≡ false → tighter_c e was ≡ guard_changes top back was e
  unfolding guard_changes
  changes_was k = rw (h, told false k) refl
