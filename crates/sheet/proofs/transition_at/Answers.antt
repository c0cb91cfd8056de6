-- `sheet::transition_at` meets its contract: the test on the way picks the definition's place. Assumes nothing.
use borrow.Author.Tests.{lt-ltb, le-ltb}
use Rattle.sheet.specs.Lookup.{transition_c}
use Rattle.sheet.proofs.transition_at.Goals as goal

pub returns-then-n-lt32 : goal.returns-then-n-lt32
unfolding transition_c
returns-then-n-lt32 c = simp (lt-ltb _ _ c.if-n-lt32.true)

pub returns-else-n-lt32 : goal.returns-else-n-lt32
unfolding transition_c
returns-else-n-lt32 c = simp (le-ltb _ _ c.if-n-lt32.false)
