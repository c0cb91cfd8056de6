-- `sheet::location_at` meets its contract: the test on the way picks the definition's place. Assumes nothing.
use borrow.Author.Tests.{lt-ltb, le-ltb}
use Rattle.sheet.specs.Lookup.{location_c}
use Rattle.sheet.proofs.location_at.Goals as goal

pub returns-then-l-lt16 : goal.returns-then-l-lt16
unfolding location_c
returns-then-l-lt16 c = simp (lt-ltb _ _ c.if-l-lt16.true)

pub returns-else-l-lt16 : goal.returns-else-l-lt16
unfolding location_c
returns-else-l-lt16 c = simp (le-ltb _ _ c.if-l-lt16.false)
