-- What the code does to a matrix, step by step, with its matrices as lists of rows.
use Rattle.std.specs.Prelude.{List, [], ◌∷◌, Bool, true, false, cond, ℕ, ◌/◌, ◌%◌, ltb, leb, eqb, pos, get_or, set}
use Rattle.weight.specs.Upper.{sum_w, tighter_w, saturated}
use Rattle.weight.specs.Records.{weight_as, weight_of, none_weight, zero_weight}
use Rattle.weight.specs.declared.Weight.{Weight}
use Rattle.weight_matrix.specs.Records.{zero_row}

abbrev pub Table : Type 0
Table = List (List Weight)

abbrev pub start_table : Table
start_table = zero_row ∷ zero_row ∷ zero_row ∷ zero_row ∷ zero_row ∷ []

-- the void matrix: clock 0 is below itself
abbrev pub void_table : Table
void_table =
    (record { none = false; strict = true; value = pos 0 } ∷ zero_weight ∷ zero_weight ∷ zero_weight ∷ zero_weight ∷ [])
    ∷ zero_row ∷ zero_row ∷ zero_row ∷ zero_row ∷ []

abbrev pub row_of : Table → ℕ → List Weight
row_of m i = get_or m i []

abbrev pub entry_of : Table → ℕ → ℕ → Weight
entry_of m i j = get_or (get_or m i []) j zero_weight

abbrev pub is_void : Table → Bool
is_void m = (entry_of m 0 0).strict

-- the code's sum and test of weights
abbrev pub sum_c : Weight → Weight → Weight
sum_c a b = weight_of (sum_w (saturated (weight_as a)) (saturated (weight_as b)))

abbrev pub tighter_c : Weight → Weight → Bool
tighter_c a b = tighter_w (saturated (weight_as a)) (saturated (weight_as b))

unfoldable pub limited_entry : Bool → Weight → Weight → Weight → Weight
limited_entry past was s add = cond past was (cond (tighter_c (sum_c s add) was) (sum_c s add) was)

unfoldable pub limited_row : ℕ → List Weight → Weight → List Weight → List Weight
limited_row clocks old s add =
    limited_entry false (get_or old 0 zero_weight) s (get_or add 0 zero_weight)
    ∷ limited_entry (ltb clocks 1) (get_or old 1 zero_weight) s (get_or add 1 zero_weight)
    ∷ limited_entry (ltb clocks 2) (get_or old 2 zero_weight) s (get_or add 2 zero_weight)
    ∷ limited_entry (ltb clocks 3) (get_or old 3 zero_weight) s (get_or add 3 zero_weight)
    ∷ limited_entry (ltb clocks 4) (get_or old 4 zero_weight) s (get_or add 4 zero_weight)
    ∷ []

unfoldable pub limited_line : Table → ℕ → ℕ → ℕ → ℕ → Weight → List Weight
limited_line m clocks k i j e = cond (ltb clocks k) (row_of m k) (limited_row clocks (row_of m k) (sum_c (entry_of m k i) e) (row_of m j))

unfoldable pub limited_table : Table → ℕ → ℕ → ℕ → Weight → Table
limited_table m clocks i j e =
    limited_line m clocks 0 i j e ∷ limited_line m clocks 1 i j e ∷ limited_line m clocks 2 i j e ∷ limited_line m clocks 3 i j e
    ∷ limited_line m clocks 4 i j e ∷ []

-- the three rules for a guard, on a matrix that is not void
unfoldable pub guarded_table : Table → ℕ → ℕ → ℕ → Weight → Table
guarded_table m clocks i j e =
    cond (ltb 4 i) m
    (cond (ltb 4 j) m
    (cond (is_void m) m
    (cond (tighter_c (sum_c e (entry_of m j i)) zero_weight) void_table (cond (tighter_c e (entry_of m i j)) (limited_table m clocks i j e) m))))

-- whether a guard changes a matrix with these entries at (0, 0), (j, i) and (i, j)
unfoldable pub guard_changes : Weight → Weight → Weight → Weight → Bool
guard_changes top back was e = cond top.strict false (cond (tighter_c (sum_c e back) zero_weight) true (tighter_c e was))

unfoldable pub delayed_row : Bool → List Weight → List Weight
delayed_row past row =
    cond past row (none_weight ∷ get_or row 1 zero_weight ∷ get_or row 2 zero_weight ∷ get_or row 3 zero_weight ∷ get_or row 4 zero_weight ∷ [])

unfoldable pub delayed_table : Table → ℕ → Table
delayed_table m clocks =
    cond (is_void m) m
    (row_of m 0 ∷ delayed_row (ltb clocks 1) (row_of m 1) ∷ delayed_row (ltb clocks 2) (row_of m 2) ∷ delayed_row (ltb clocks 3) (row_of m 3)
    ∷ delayed_row (ltb clocks 4) (row_of m 4) ∷ [])

unfoldable pub reset_entry : Bool → Bool → Weight → Weight → Weight
reset_entry past same was top = cond past was (cond same was top)

unfoldable pub reset_row : ℕ → ℕ → List Weight → List Weight → List Weight
reset_row clocks r old top =
    reset_entry false (eqb r 0) (get_or old 0 zero_weight) (get_or top 0 zero_weight)
    ∷ reset_entry (ltb clocks 1) (eqb r 1) (get_or old 1 zero_weight) (get_or top 1 zero_weight)
    ∷ reset_entry (ltb clocks 2) (eqb r 2) (get_or old 2 zero_weight) (get_or top 2 zero_weight)
    ∷ reset_entry (ltb clocks 3) (eqb r 3) (get_or old 3 zero_weight) (get_or top 3 zero_weight)
    ∷ reset_entry (ltb clocks 4) (eqb r 4) (get_or old 4 zero_weight) (get_or top 4 zero_weight)
    ∷ []

unfoldable pub reset_line : Table → ℕ → ℕ → ℕ → List Weight
reset_line m clocks r k =
    cond (ltb clocks k) (row_of m k)
    (cond (eqb k r) (reset_row clocks r (row_of m k) (row_of m 0)) (set (row_of m k) r (get_or (row_of m k) 0 zero_weight)))

unfoldable pub reset_table : Table → ℕ → ℕ → Table
reset_table m clocks r =
    reset_line m clocks r 0 ∷ reset_line m clocks r 1 ∷ reset_line m clocks r 2 ∷ reset_line m clocks r 3 ∷ reset_line m clocks r 4 ∷ []

unfoldable pub reset_if : Table → ℕ → ℕ → ℕ → Table
reset_if m clocks r bit = cond (eqb bit 1) (cond (leb r clocks) (reset_table m clocks r) m) m

-- in rising order; a void matrix stays
unfoldable pub resets_table : Table → ℕ → ℕ → Table
resets_table m clocks bits =
    cond (is_void m) m
    (reset_if (reset_if (reset_if (reset_if m clocks 1 (bits % 2)) clocks 2 (bits / 2 % 2)) clocks 3 (bits / 4 % 2)) clocks 4 (bits / 8 % 2))
