-- `entries::most_parameters` meets its contract: the test on the way picks the definition's case. Assumes nothing.
use borrow.Author.Tests.{eq-eqb, ne_eqb}
use Rattle.contents.specs.Contents.{most_parameters}
use Rattle.contents.proofs.entries.most_parameters.Goals as goal

pub returns-then-version-eq2 : goal.returns-then-version-eq2
unfolding most_parameters
returns-then-version-eq2 c = simp (eq-eqb _ _ c.if-version-eq2.true)

pub returns-else-version-eq2 : goal.returns-else-version-eq2
unfolding most_parameters
returns-else-version-eq2 c = simp (ne_eqb _ _ c.if-version-eq2.false)
