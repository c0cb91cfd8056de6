-- Request (e) of paper 02, for bounds over any number of parameters: paper 01's test of which bound is tighter is one sum.
use Rattle.std.specs.Prelude.{◌≡◌, Bool, true, false, not, ◌&&◌, cond, pos, ◌+ℤ◌}
use Rattle.std.proofs.Common.{ap}
use Rattle.weight.specs.Upper.{upper}
use Rattle.weight.specs.TestBySum.{one_back, none_back}
use Rattle.expr.specs.Affine.{Affine, minus, less_one}
use Rattle.expr.specs.Bounds.{slack_e, ask, tighter_b}

-- e, plus one where b
unfoldable pub plus_one_where : Bool → Affine → Affine
plus_one_where b e = record { constant = e.constant +ℤ cond b (pos 1) (pos 0); coefs = e.coefs }

-- the second less the first, less one, plus one where only the first is strict
abbrev pub test_sum_e : Bool → Bool → Affine → Affine → Affine
test_sum_e s t a b = plus_one_where (s && not t) (less_one (minus b a))

one_back_e : (e : Affine) → e ≡ plus_one_where true (less_one e)
unfolding plus_one_where less_one
one_back_e e = λ i. record { constant = one_back e.constant i; coefs = e.coefs }

none_back_e : (e : Affine) → e ≡ plus_one_where false e
unfolding plus_one_where
none_back_e e = λ i. record { constant = none_back e.constant i; coefs = e.coefs }

pub slack_by_sum : (s t : Bool) (a b : Affine) → slack_e s t a b ≡ test_sum_e s t a b
slack_by_sum true true a b = none_back_e (less_one (minus b a))
slack_by_sum true false a b = one_back_e (minus b a)
slack_by_sum false t a b = none_back_e (less_one (minus b a))

-- for any two bounds that are not none, what is asked is that this sum is at least 0
pub test_by_sum : (s t : Bool) (a b : Affine) → tighter_b (upper s a) (upper t b) ≡ ask (test_sum_e s t a b)
unfolding tighter_b
test_by_sum s t a b = ap ask (slack_by_sum s t a b)
