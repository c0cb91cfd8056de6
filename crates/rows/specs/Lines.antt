-- Inequalities with all parameters put in but two, and the part of a range where they hold.
use Rattle.std.specs.Prelude.{◌≡◌, List, ℕ, zero, suc, ◌+◌, ◌*◌, ℤ, pos, ◌+ℤ◌, ◌*ℤ◌, get_or}
use Rattle.expr.specs.Affine.{Affine, value}
use Rattle.expr.specs.declared.range.Range.{Range}
use Rattle.inequalities.specs.Sizes.{SizedTo}
use Rattle.intervals.specs.Interval.{interval}
use Rattle.rows.specs.declared.lines.Line.{Line}

-- the line of inequality k of a flat list, its constant from a list of such
abbrev pub line_at : List ℤ → List ℤ → ℕ → ℕ → ℕ → Line
line_at cs flat w t k =
    record { constant = get_or cs k (pos 0); first = get_or flat (5 * k + 1 + w) (pos 0); second = get_or flat (5 * k + 1 + t) (pos 0) }

-- the value of an inequality
pub record ValueOf (e : Affine) (v : List ℤ) (x : ℤ) : Type 0 where
  pub same : x ≡ value e v
  pub size : SizedTo 4 x

-- the line of an inequality, a valuation having 0 for the parameters at w and t
pub record LineOf (e : Affine) (v : List ℤ) (w t : ℕ) (q : Line) : Type 0 where
  pub constant : q.constant ≡ value e v
  pub first : q.first ≡ get_or e.coefs w (pos 0)
  pub second : q.second ≡ get_or e.coefs t (pos 0)

-- the part of a range where n lines from line k on hold at x
unfoldable pub row_from : (ℕ → Line) → ℕ → ℕ → ℤ → Range → Range
row_from l k zero x r = r
row_from l k (suc n) x r = row_from l (suc k) n x (interval r ((l k).constant +ℤ ((l k).first *ℤ x)) (l k).second)
