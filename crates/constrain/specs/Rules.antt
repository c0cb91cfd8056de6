-- What a guard asks of a matrix, test by test, on the code's records.
use Rattle.std.specs.Prelude.{List, [], ◌∷◌, ◌++◌, Bool, true, false, cond, ℕ, zero, suc, ◌+◌, ◌*◌, ◌/◌, ◌%◌, min, ltb, get_or}
use Rattle.expr.specs.Bounds.{sum_b, tighter_b, saturated_b}
use Rattle.expr.specs.Records.{bound_as, bound_of, test, no_test, none_bound, zero_bound}
use Rattle.expr.specs.declared.bound.Bound.{Bound}
use Rattle.expr.specs.declared.bound.Test.{Test}
use Rattle.constrain.specs.declared.rule.Reads.{Reads}
use Rattle.constrain.specs.declared.rule.Rule.{Rule}

-- entry (k, l) of a matrix, five rows of five
abbrev pub entry_c : List Bound → ℕ → ℕ → Bound
entry_c m k l = get_or m (5 * k + l) zero_bound

-- the code's sum and test of bounds
abbrev pub sum_c : Bound → Bound → Bound
sum_c a b = bound_of (sum_b (saturated_b (bound_as a)) (saturated_b (bound_as b)))

abbrev pub tighter_c : Bound → Bound → Test
tighter_c a b = test (tighter_b (saturated_b (bound_as a)) (saturated_b (bound_as b)))

-- rule (1): e + (j, i) against zero, not strict
unfoldable pub void_test : Rule → Test
void_test r = tighter_c (sum_c r.bound (entry_c r.old r.right r.left)) zero_bound

-- rule (2): e against (i, j)
unfoldable pub tight_test : Rule → Test
tight_test r = tighter_c r.bound (entry_c r.old r.left r.right)

-- rule (3): (k, i) + e + (j, l) for the entry x = 5k + l
unfoldable pub via_c : Rule → ℕ → Bound
via_c r x = sum_c (sum_c (entry_c r.old (x / 5) r.left) r.bound) (entry_c r.old r.right (x % 5))

-- against the entry; no, past the clocks
unfoldable pub push_test : Rule → ℕ → Test
push_test r x =
    cond (ltb r.clocks (x / 5)) no_test
    (cond (ltb r.clocks (x % 5)) no_test (tighter_c (via_c r x) (get_or r.old x zero_bound)))

-- the test of a phase
unfoldable pub ask_c : Rule → ℕ → Test
ask_c r zero = void_test r
ask_c r (suc zero) = tight_test r
ask_c r (suc (suc x)) = push_test r x

-- ---- the same in two steps: where the entries stand, and what becomes of them
abbrev pub place_c : ℕ → ℕ → ℕ
place_c k l = min (5 * k + l) 25

unfoldable pub places_at : ℕ → ℕ → ℕ → Reads
places_at left right zero = record { first = place_c right left; last = 25; was = 25; into = 0 }
places_at left right (suc zero) = record { first = 25; last = 25; was = place_c left right; into = 0 }
places_at left right (suc (suc x)) =
    record { first = place_c (x / 5) left; last = place_c right (x % 5); was = min x 25; into = min x 24 }

-- a matrix with a place behind it: what is read outside it
unfoldable pub framed_c : List Bound → List Bound
framed_c m = m ++ (zero_bound ∷ [])

-- an entry that was read at a place; outside the matrix zero, not strict
unfoldable pub inside_c : ℕ → Bound → Bound
inside_c x b = cond (ltb x 25) b zero_bound

-- what a phase compares; none past the clocks
unfoldable pub via_at : ℕ → ℕ → Bound → Bound → Bound → Bound
via_at clocks zero bound first last = sum_c bound first
via_at clocks (suc zero) bound first last = bound
via_at clocks (suc (suc x)) bound first last =
    cond (ltb clocks (x / 5)) none_bound (cond (ltb clocks (x % 5)) none_bound (sum_c (sum_c first bound) last))

-- the phase of an entry past the clocks
unfoldable pub outside_c : ℕ → ℕ → Bool
outside_c clocks zero = false
outside_c clocks (suc zero) = false
outside_c clocks (suc (suc x)) = cond (ltb clocks (x / 5)) true (ltb clocks (x % 5))
