-- Request (e) of paper 02, for weights: paper 01's test of which weight is tighter is one sum.
use Rattle.std.specs.Prelude.{◌≡◌, Bool, true, false, not, ◌&&◌, cond, ℤ, pos, ◌+ℤ◌, ◌-ℤ◌}
use Rattle.std.proofs.Common.{ap, arith}
use Rattle.std.specs.Int.Signed.{le_z}
use Rattle.integer.specs.Split.{split, split-all}
use Rattle.weight.specs.Upper.{upper, slack, tighter_w}

-- the second less the first, less one, plus one where only the first is strict
abbrev pub test_sum : Bool → Bool → ℤ → ℤ → ℤ
test_sum s t x y = ((y -ℤ x) -ℤ pos 1) +ℤ cond (s && not t) (pos 1) (pos 0)

pub one_back : (d : ℤ) → d ≡ (d -ℤ pos 1) +ℤ pos 1
one_back d = rw (split d) (simp split-all (omega arith))

pub none_back : (d : ℤ) → d ≡ d +ℤ pos 0
none_back d = rw (split d) (simp split-all (omega arith))

pub slack_by_sum : (s t : Bool) (x y : ℤ) → slack s t x y ≡ test_sum s t x y
slack_by_sum true true x y = none_back ((y -ℤ x) -ℤ pos 1)
slack_by_sum true false x y = one_back (y -ℤ x)
slack_by_sum false t x y = none_back ((y -ℤ x) -ℤ pos 1)

-- for any two weights that are not none, the first is tighter exactly if that sum is at least 0
pub test_by_sum : (s t : Bool) (x y : ℤ) → tighter_w (upper s x) (upper t y) ≡ le_z (pos 0) (test_sum s t x y)
unfolding tighter_w
test_by_sum s t x y = ap (λ (z : ℤ). le_z (pos 0) z) (slack_by_sum s t x y)
