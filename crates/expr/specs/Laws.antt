-- What sums, tests and opposites mean at a valuation, for any number of parameters.
use Rattle.std.specs.Prelude.{◌≡◌, refl, List, [], ◌∷◌, map, Bool, true, false, not, ℤ, pos, negsuc, neg_ℤ, ◌+ℤ◌, ◌-ℤ◌, ◌*ℤ◌}
use Rattle.std.proofs.Common.{sym, ap, ◌∙◌, arith}
use Rattle.std.proofs.Math.IntN.{+ℤ_idl, +ℤ_idr}
use Rattle.std.specs.Int.Signed.{le_z}
use Rattle.integer.specs.Split.{split, split-all}
use Rattle.expr.specs.Affine.{Affine, dot, value, plus_l, minus_l, plus, minus, less_one, opposite}
use Rattle.weight.specs.Upper.{Upper, none, upper, sum_w, slack, tighter_w}
use Rattle.expr.specs.Bounds.{at_v, sum_b, slack_e, Question, yes', no', ask, tighter_b}

-- ---- values
plus_step : (c d x a b : ℤ) → ((c +ℤ d) *ℤ x) +ℤ (a +ℤ b) ≡ ((c *ℤ x) +ℤ a) +ℤ ((d *ℤ x) +ℤ b)
plus_step c d x a b = rw (split c, split d, split x, split a, split b) (simp split-all (omega arith))

pub plus_dot : (cs ds v : List ℤ) → dot (plus_l cs ds) v ≡ dot cs v +ℤ dot ds v
unfolding dot plus_l
plus_dot [] ds v = sym (+ℤ_idl (dot ds v))
plus_dot (c ∷ cs) [] v = sym (+ℤ_idr (dot (c ∷ cs) v))
plus_dot (c ∷ cs) (d ∷ ds) [] = refl
plus_dot (c ∷ cs) (d ∷ ds) (x ∷ v) = rw (plus_dot cs ds v) (plus_step c d x (dot cs v) (dot ds v))

neg_step : (d x b : ℤ) → (neg_ℤ d *ℤ x) +ℤ neg_ℤ b ≡ neg_ℤ ((d *ℤ x) +ℤ b)
neg_step d x b = rw (split d, split x, split b) (simp split-all (omega arith))

pub neg_dot : (ds v : List ℤ) → dot (map neg_ℤ ds) v ≡ neg_ℤ (dot ds v)
unfolding dot
neg_dot [] v = refl
neg_dot (d ∷ ds) [] = refl
neg_dot (d ∷ ds) (x ∷ v) = rw (neg_dot ds v) (neg_step d x (dot ds v))

minus_step : (c d x a b : ℤ) → ((c -ℤ d) *ℤ x) +ℤ (a -ℤ b) ≡ ((c *ℤ x) +ℤ a) -ℤ ((d *ℤ x) +ℤ b)
minus_step c d x a b = rw (split c, split d, split x, split a, split b) (simp split-all (omega arith))

zero_less : (x : ℤ) → neg_ℤ x ≡ pos 0 -ℤ x
zero_less x = rw (split x) (simp split-all (omega arith))

less_zero : (x : ℤ) → x ≡ x -ℤ pos 0
less_zero x = rw (split x) (simp split-all (omega arith))

pub minus_dot : (cs ds v : List ℤ) → dot (minus_l cs ds) v ≡ dot cs v -ℤ dot ds v
unfolding dot minus_l
minus_dot [] ds v = neg_dot ds v ∙ zero_less (dot ds v)
minus_dot (c ∷ cs) [] v = less_zero (dot (c ∷ cs) v)
minus_dot (c ∷ cs) (d ∷ ds) [] = refl
minus_dot (c ∷ cs) (d ∷ ds) (x ∷ v) = rw (minus_dot cs ds v) (minus_step c d x (dot cs v) (dot ds v))

plus_both : (c d a b : ℤ) → (c +ℤ d) +ℤ (a +ℤ b) ≡ (c +ℤ a) +ℤ (d +ℤ b)
plus_both c d a b = rw (split c, split d, split a, split b) (simp split-all (omega arith))

minus_both : (c d a b : ℤ) → (c -ℤ d) +ℤ (a -ℤ b) ≡ (c +ℤ a) -ℤ (d +ℤ b)
minus_both c d a b = rw (split c, split d, split a, split b) (simp split-all (omega arith))

less_both : (c a : ℤ) → (c -ℤ pos 1) +ℤ a ≡ (c +ℤ a) -ℤ pos 1
less_both c a = rw (split c, split a) (simp split-all (omega arith))

turn_both : (c a : ℤ) → (negsuc 0 -ℤ c) +ℤ neg_ℤ a ≡ negsuc 0 -ℤ (c +ℤ a)
turn_both c a = rw (split c, split a) (simp split-all (omega arith))

-- the value of a sum is the sum of the values, and so for a difference
pub plus_value : (a b : Affine) (v : List ℤ) → value (plus a b) v ≡ value a v +ℤ value b v
unfolding value plus
plus_value a b v = rw (plus_dot a.coefs b.coefs v) (plus_both a.constant b.constant (dot a.coefs v) (dot b.coefs v))

pub minus_value : (a b : Affine) (v : List ℤ) → value (minus a b) v ≡ value a v -ℤ value b v
unfolding value minus
minus_value a b v = rw (minus_dot a.coefs b.coefs v) (minus_both a.constant b.constant (dot a.coefs v) (dot b.coefs v))

pub less_one_value : (e : Affine) (v : List ℤ) → value (less_one e) v ≡ value e v -ℤ pos 1
unfolding value less_one
less_one_value e v = less_both e.constant (dot e.coefs v)

pub opposite_value : (e : Affine) (v : List ℤ) → value (opposite e) v ≡ negsuc 0 -ℤ value e v
unfolding value opposite
opposite_value e v = rw (neg_dot e.coefs v) (turn_both e.constant (dot e.coefs v))

-- ---- the opposite: at every valuation exactly one of an inequality and its opposite holds
holds_not : (x : ℤ) → le_z (pos 0) x ≡ true → le_z (pos 0) (negsuc 0 -ℤ x) ≡ false
holds_not x = rw (split x) (simp split-all (omega arith))

not_holds : (x : ℤ) → le_z (pos 0) x ≡ false → le_z (pos 0) (negsuc 0 -ℤ x) ≡ true
not_holds x = rw (split x) (simp split-all (omega arith))

turned : (x : ℤ) (b : Bool) → le_z (pos 0) x ≡ b → le_z (pos 0) (negsuc 0 -ℤ x) ≡ not b
turned x true e = holds_not x e
turned x false e = not_holds x e

pub opposite_holds : (e : Affine) (v : List ℤ) → le_z (pos 0) (value (opposite e) v) ≡ not (le_z (pos 0) (value e v))
opposite_holds e v = rw (opposite_value e v) (turned (value e v) (le_z (pos 0) (value e v)) refl)

-- ---- sums: a sum of bounds is, at every valuation, the sum of the weights
pub sum_at : (a b : Upper Affine) (v : List ℤ) → at_v v (sum_b a b) ≡ sum_w (at_v v a) (at_v v b)
unfolding sum_b sum_w at_v
sum_at none b v = refl
sum_at (upper s a) none v = refl
sum_at (upper s a) (upper t b) v = rw (plus_value a b v) refl

-- ---- tests: the answer of a test is, at every valuation, whether the first weight is tighter
unfoldable pub answer : Question → List ℤ → Bool
answer yes' v = true
answer no' v = false
answer (ask e) v = le_z (pos 0) (value e v)

slack_value : (s t : Bool) (a b : Affine) (v : List ℤ) → value (slack_e s t a b) v ≡ slack s t (value a v) (value b v)
slack_value true true a b v = rw (less_one_value (minus b a) v, minus_value b a v) refl
slack_value true false a b v = minus_value b a v
slack_value false t a b v = rw (less_one_value (minus b a) v, minus_value b a v) refl

pub tighter_at : (a b : Upper Affine) (v : List ℤ) → answer (tighter_b a b) v ≡ tighter_w (at_v v a) (at_v v b)
unfolding tighter_b tighter_w at_v answer
tighter_at none b v = refl
tighter_at (upper s a) none v = refl
tighter_at (upper s a) (upper t b) v = ap (λ (x : ℤ). le_z (pos 0) x) (slack_value s t a b v)
