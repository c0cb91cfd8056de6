-- Upper bounds of a difference of two clocks (paper 01, "Cutting the ranges"): none, or something with a strict mark. A bound has an
-- expression (crate expr, specs/Bounds); a weight, which is a bound at one valuation, has a number.
use Rattle.std.specs.Prelude.{Bool, true, false, ◌||◌, cond, ℤ, pos, neg_ℤ, ◌+ℤ◌, ◌-ℤ◌}
use Rattle.std.specs.Int.Signed.{le_z}

pub data Upper (A : Type 0) : Type 0 where
  none : Upper A
  upper : Bool → A → Upper A

-- zero, not strict
abbrev pub zero_w : Upper ℤ
zero_w = upper false (pos 0)

-- the sum of two weights: numbers added; strict if either is; none if either is
unfoldable pub sum_w : Upper ℤ → Upper ℤ → Upper ℤ
sum_w none b = none
sum_w (upper s x) none = none
sum_w (upper s x) (upper t y) = upper (s || t) (x +ℤ y)

-- b - a where a is strict and b is not, else b - a - 1: at least 0 exactly if a is tighter than b
abbrev pub slack : Bool → Bool → ℤ → ℤ → ℤ
slack true true x y = (y -ℤ x) -ℤ pos 1
slack true false x y = y -ℤ x
slack false t x y = (y -ℤ x) -ℤ pos 1

-- the first weight is tighter than the second; any other weight is tighter than none, and none is tighter than no weight
unfoldable pub tighter_w : Upper ℤ → Upper ℤ → Bool
tighter_w none b = false
tighter_w (upper s x) none = true
tighter_w (upper s x) (upper t y) = le_z (pos 0) (slack s t x y)

-- x, a number past ±most counting as that end
unfoldable pub saturate : ℤ → ℤ → ℤ
saturate most x = cond (le_z x most) (cond (le_z (neg_ℤ most) x) x (neg_ℤ most)) most

-- the code's sum and test of weights never wrap: a number past ±(2^62 - 1) counts as that end
abbrev pub MOST : ℤ
MOST = pos 4611686018427387903

unfoldable pub saturated : Upper ℤ → Upper ℤ
saturated none = none
saturated (upper s x) = upper s (saturate MOST x)
