-- The branches are the cases of `at_v`.
use mathlib.Core.Path.{refl, ◌∙◌}
use mir.Syntax.{w64}
use mir.ValLaws.{to_z-of_z}
use borrow.Author.Rules.{rules}
use Rattle.expr.specs.Bounds.{at_v}
use Rattle.values.proofs.Sums.{weight_path}
use Rattle.values.proofs.bound_at.Goals as goal

pub returns-then-b : goal.returns-then-b
unfolding at_v
returns-then-b c = rw c.if-b.true refl

pub returns : goal.returns
unfolding at_v
returns c = rw c.if-b.false (weight_path refl (to_z-of_z w64 c.expr_at.result (search rules) ∙ c.expr_at.ensures))
