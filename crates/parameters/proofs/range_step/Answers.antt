-- `parameters::range_step` meets its contract: the test on the way picks the definition's case. Assumes nothing.
use borrow.Author.Tests.{lt-ltb, le-ltb}
use Rattle.parameters.specs.Parameters.{range_step}
use Rattle.parameters.proofs.range_step.Goals as goal

pub returns-then-i-all : goal.returns-then-i-all
unfolding range_step
returns-then-i-all c =
    let high = c.before.before in
    simp (
      lt-ltb _ _ high.if-i-all.true,
      c.range_of.ensures,
      high.highest_field-high.ensures,
      high.signed_field-low.ensures,
    )

pub returns-else-i-all : goal.returns-else-i-all
unfolding range_step
returns-else-i-all c = simp (le-ltb _ _ c.if-i-all.false)
