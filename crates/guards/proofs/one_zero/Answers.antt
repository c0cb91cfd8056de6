-- `guards::one_zero` meets its contract: the test on the way picks the definition's case. Assumes nothing.
use borrow.Author.Tests.{eq-eqb, ne_eqb}
use Rattle.guards.specs.Guards.{one_zero}
use Rattle.guards.proofs.one_zero.Goals as goal

pub returns-then-left-eq0 : goal.returns-then-left-eq0
unfolding one_zero
returns-then-left-eq0 c = simp (eq-eqb _ _ c.if-left-eq0.true)

pub returns-else-left-eq0 : goal.returns-else-left-eq0
unfolding one_zero
returns-else-left-eq0 c = simp (ne_eqb _ _ c.if-left-eq0.false)
