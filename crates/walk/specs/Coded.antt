-- The code's table of a matrix of weights: its entries up to index 4, as the code's records. And that of an outcome, void being
-- `void_table`. The laws that read it. CodedSteps and CodedWalk say with these that Tables is Walk.
use Rattle.std.specs.Prelude.{◌≡◌, List, [], ◌∷◌, Bool, true, false, cond, ℕ, ◌≤◌, ℤ}
use Rattle.std.proofs.Math.Path.{refl}
use Rattle.std.proofs.Common.{ap, ◌∙◌, arith}
use Rattle.std.proofs.Math.ListN.{get_or}
use Rattle.dbm.specs.Entries.{up_to_4}
use Rattle.dbm.specs.Matrix.{Matrix, Outcome, void, kept}
use Rattle.weight.specs.Upper.{Upper, none, upper, sum_w, tighter_w, zero_w, saturated}
use Rattle.weight.specs.Records.{weight_as, weight_of, zero_weight}
use Rattle.weight.specs.declared.Weight.{Weight}
use Rattle.weight_matrix.specs.Tables.{Table, void_table, row_of, entry_of, is_void, sum_c, tighter_c}
use Rattle.weight_matrix.specs.Records.{row}

-- rows 0 to 4
unfoldable pub table : Matrix (Upper ℤ) → Table
table f = row f 0 ∷ row f 1 ∷ row f 2 ∷ row f 3 ∷ row f 4 ∷ []

unfoldable pub coded : Outcome → Table
coded void = void_table
coded (kept m) = table m

-- ---- weights
pub weight_as_lem : (a : Upper ℤ) → weight_as (weight_of a) ≡ a
weight_as_lem none = refl
weight_as_lem (upper s x) = refl

pub sum_of : (a b : Upper ℤ) → sum_c (weight_of a) (weight_of b) ≡ weight_of (sum_w (saturated a) (saturated b))
sum_of a b = rw (weight_as_lem a, weight_as_lem b) refl

pub tighter_of_lem : (a b : Upper ℤ) → tighter_c (weight_of a) (weight_of b) ≡ tighter_w (saturated a) (saturated b)
tighter_of_lem a b = rw (weight_as_lem a, weight_as_lem b) refl

pub cond_of : (b : Bool) (x y : Upper ℤ) → cond b (weight_of x) (weight_of y) ≡ weight_of (cond b x y)
cond_of true x y = refl
cond_of false x y = refl

-- ---- entries
module _ (f : Matrix (Upper ℤ)) where
  pub row_at : (i : ℕ) → i ≤ 4 → row_of (table f) i ≡ row f i
  unfolding table
  row_at = up_to_4 (λ i. row_of (table f) i ≡ row f i) refl refl refl refl refl

  pub in_row : (i j : ℕ) → j ≤ 4 → get_or (row f i) j zero_weight ≡ weight_of (f i j)
  unfolding row
  in_row i = up_to_4 (λ j. get_or (row f i) j zero_weight ≡ weight_of (f i j)) refl refl refl refl refl

  pub entry_at : (i j : ℕ) → i ≤ 4 → j ≤ 4 → entry_of (table f) i j ≡ weight_of (f i j)
  entry_at i j hi hj = rw (row_at i hi) (in_row i j hj)

  pub table_not_void : f 0 0 ≡ zero_w → is_void (table f) ≡ false
  table_not_void e = ap (λ (a : Weight). a.strict) (entry_at 0 0 (omega arith) (omega arith)) ∙ ap (λ (a : Upper ℤ). (weight_of a).strict) e

  -- five weights that are the entries of a row, and five rows that are the rows of a table
  pub row_of_lem : (i : ℕ) {a b c d e : Weight}
      → a ≡ weight_of (f i 0) → b ≡ weight_of (f i 1) → c ≡ weight_of (f i 2) → d ≡ weight_of (f i 3) → e ≡ weight_of (f i 4)
      → (a ∷ b ∷ c ∷ d ∷ e ∷ []) ≡ row f i
  unfolding row
  row_of_lem i p q r s t = rw (p, q, r, s, t) refl

  pub table_of : {a b c d e : List Weight} → a ≡ row f 0 → b ≡ row f 1 → c ≡ row f 2 → d ≡ row f 3 → e ≡ row f 4
      → (a ∷ b ∷ c ∷ d ∷ e ∷ []) ≡ table f
  unfolding table
  table_of p q r s t = rw (p, q, r, s, t) refl

-- rows with the same entries
pub row_same : (f g : Matrix (Upper ℤ)) (i : ℕ) → ((j : ℕ) → f i j ≡ g i j) → row f i ≡ row g i
unfolding row
row_same f g i h = rw (h 0, h 1, h 2, h 3, h 4) refl
