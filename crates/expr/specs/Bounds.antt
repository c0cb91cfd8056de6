-- Bounds (paper 01, "Cutting the ranges"): none, or an expression with a strict mark.
use Rattle.std.specs.Prelude.{List, [], Bool, true, false, ◌||◌, ℤ, pos}
use Rattle.weight.specs.Upper.{Upper, none, upper}
use Rattle.expr.specs.Affine.{Affine, value, plus, minus, less_one, saturated_e}

-- zero, not strict
abbrev pub zero_b : Upper Affine
zero_b = upper false (record { constant = pos 0; coefs = [] })

-- a bound with a valuation put in: its expression's value and its mark; none stays none
unfoldable pub at_v : List ℤ → Upper Affine → Upper ℤ
at_v v none = none
at_v v (upper s e) = upper s (value e v)

-- the sum of two bounds: expressions added; strict if either is; none if either is
unfoldable pub sum_b : Upper Affine → Upper Affine → Upper Affine
sum_b none b = none
sum_b (upper s a) none = none
sum_b (upper s a) (upper t b) = upper (s || t) (plus a b)

-- b - a where a is strict and b is not, else b - a - 1: at least 0 exactly if a is tighter than b
abbrev pub slack_e : Bool → Bool → Affine → Affine → Affine
slack_e true true a b = less_one (minus b a)
slack_e true false a b = minus b a
slack_e false t a b = less_one (minus b a)

-- what a comparison of two bounds asks: nothing, the answer being yes or no; or an expression that is asked ≥ 0
pub data Question : Type 0 where
  yes' : Question
  no' : Question
  ask : Affine → Question

-- the first bound is tighter than the second; against none there is no test
unfoldable pub tighter_b : Upper Affine → Upper Affine → Question
tighter_b none b = no'
tighter_b (upper s a) none = yes'
tighter_b (upper s a) (upper t b) = ask (slack_e s t a b)

-- a bound whose expression is saturated; the code's sums and tests are those of such bounds
unfoldable pub saturated_b : Upper Affine → Upper Affine
saturated_b none = none
saturated_b (upper s e) = upper s (saturated_e e)
