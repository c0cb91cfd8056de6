-- What holds of every guard that was read (paper 01, "The sheet file"). Definitions only.
use Rattle.std.specs.Prelude.{ℕ, ◌≤◌, ◌<◌, ◌≡◌, ◌⊎◌, List, false, pos}
use Rattle.expr.specs.Records.{PARAMETERS}
use Rattle.expr.specs.declared.number.Expr.{Expr}
use Rattle.cursor_laws.specs.Right.{Small, Filled}
use Rattle.guards.specs.declared.Guard.{Guard}
use Rattle.guards.specs.Guards.{no_guard, blank_guard}

-- small numbers; a coefficient is 0 for a parameter (paper: allowance) that the sheet lacks
pub record ExprRight (parameters : ℕ) (expr : Expr) : Type 0 where
  pub constant : Small expr.constant
  pub coefs : Filled PARAMETERS parameters (pos 0) (pos 0) Small expr.coefs

-- a guard (paper: limit): two clocks (paper: watches) of the sheet, exactly one of them 0, and a bound that is not none
pub record GuardRight (parameters clocks : ℕ) (guard : Guard) : Type 0 where
  pub left : guard.left ≤ clocks
  pub right : guard.right ≤ clocks
  pub one_zero_lem : ((guard.left ≡ 0) × (0 < guard.right)) ⊎ ((0 < guard.left) × (guard.right ≡ 0))
  pub some : guard.bound.none ≡ false
  pub expr : ExprRight parameters guard.bound.expr

-- up to 6 guards
abbrev pub GuardsRight : ℕ → ℕ → ℕ → List Guard → Type 0
GuardsRight parameters clocks count guards = Filled 6 count no_guard blank_guard (GuardRight parameters clocks) guards
