-- What the definitions of sums and tests of bounds come to at the code's records, case by case.
use mathlib.Core.Path.{◌≡◌, refl, ap, ◌∙◌}
use mathlib.Core.Bool.{true, false, not, cond, ◌&&◌, ◌||◌}
use lib.IntN.{ℤ, pos, ◌+ℤ◌, ◌-ℤ◌}
use mir.Syntax.{w32}
use mir.Val.{SFits}
use Rattle.weight.specs.Fits.{less_one_fits, plus_one_fits}
use Rattle.weight.specs.Upper.{saturate, none}
use Rattle.saturating.specs.Largest.{LARGEST}
use Rattle.saturating.specs.Sums.{room, clamped_in}
use Rattle.expr.specs.Affine.{saturated_e, plus, minus, less_one}
use Rattle.expr.specs.Bounds.{sum_b, tighter_b, saturated_b}
use Rattle.expr.specs.TestBySum.{plus_one_where, test_by_sum}
use Rattle.expr.specs.Records.{affine, expr_of, bound_as, bound_of, test}
use Rattle.expr.specs.declared.bound.Bound.{Bound as CodeBound}
use Rattle.expr.specs.declared.bound.Test.TheVariants.{Yes, No, Ask}
use Rattle.expr.specs.declared.number.Expr.{Expr}

module _ (a b : CodeBound) where
  -- ---- a sum
  pub sum_left : a.none ≡ true → bound_of none ≡ bound_of (sum_b (saturated_b (bound_as a)) (saturated_b (bound_as b)))
  unfolding sum_b saturated_b
  sum_left h = rw h refl

  pub sum_right : a.none ≡ false → b.none ≡ true → bound_of none ≡ bound_of (sum_b (saturated_b (bound_as a)) (saturated_b (bound_as b)))
  unfolding sum_b saturated_b
  sum_right h k = rw (h, k) refl

  pub sum_both : (x : Expr) → a.none ≡ false → b.none ≡ false
      → x ≡ expr_of (plus (saturated_e (affine a.expr)) (saturated_e (affine b.expr)))
      → ◌≡◌ {A = CodeBound} (record { none = false; strict = a.strict || b.strict; expr = x })
      (bound_of (sum_b (saturated_b (bound_as a)) (saturated_b (bound_as b))))
  unfolding sum_b saturated_b
  sum_both x h k e = rw (h, k) (ap (λ (e : Expr). record { none = false; strict = a.strict || b.strict; expr = e }) e)

  -- ---- a test
  pub test_left : a.none ≡ true
      → No ≡ test (tighter_b (saturated_b (bound_as a)) (saturated_b (bound_as b)))
  unfolding tighter_b saturated_b
  test_left h = rw h refl

  pub test_right : a.none ≡ false → b.none ≡ true
      → Yes ≡ test (tighter_b (saturated_b (bound_as a)) (saturated_b (bound_as b)))
  unfolding tighter_b saturated_b
  test_right h k = rw (h, k) refl

  pub test_both : (d l x : Expr) → a.none ≡ false → b.none ≡ false
      → d ≡ expr_of (minus (saturated_e (affine b.expr)) (saturated_e (affine a.expr)))
      → l ≡ record { constant = d.constant -ℤ pos 1; coefs = d.coefs }
      → x ≡ record { constant = l.constant +ℤ cond (a.strict && not b.strict) (pos 1) (pos 0); coefs = l.coefs }
      → Ask x ≡ test (tighter_b (saturated_b (bound_as a)) (saturated_b (bound_as b)))
  unfolding saturated_b plus_one_where less_one
  test_both d l x h k ed el ex =
      let f = saturated_e (affine a.expr) in
      let s = saturated_e (affine b.expr) in
      rw (h, k, test_by_sum a.strict b.strict f s, ex, el, ed) refl

-- ---- what the steps of a test ask
module _ (a b d : Expr) (ed : d ≡ expr_of (minus (saturated_e (affine b)) (saturated_e (affine a)))) where
  first : d.constant ≡ saturate LARGEST b.constant -ℤ saturate LARGEST a.constant
  unfolding minus saturated_e
  first = ap (λ (x : Expr). x.constant) ed

  pub less_one_asks : SFits w32 (d.constant -ℤ pos 1)
  less_one_asks = rw first (less_one_fits room _ _ (clamped_in b.constant) (clamped_in a.constant))

  pub plus_one_asks : (l : Expr) → l ≡ record { constant = d.constant -ℤ pos 1; coefs = d.coefs } → SFits w32 (l.constant +ℤ pos 1)
  plus_one_asks l el =
      let second : l.constant ≡ (saturate LARGEST b.constant -ℤ saturate LARGEST a.constant) -ℤ pos 1 =
      ap (λ (x : Expr). x.constant) el ∙ ap (λ (x : ℤ). x -ℤ pos 1) first in
      rw second (plus_one_fits room _ _ (clamped_in b.constant) (clamped_in a.constant))
