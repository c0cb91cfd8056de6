-- `short` meets its contract: the test on the way picks the definition's case. Assumes nothing.
use borrow.Author.Tests.{lt-ltb, le-ltb}
use Rattle.places.specs.Places.{short_of}
use Rattle.places.proofs.short.Goals as goal

pub returns-then-at-lt65536 : goal.returns-then-at-lt65536
unfolding short_of
returns-then-at-lt65536 c = simp (lt-ltb _ _ c.if-at-lt65536.true)

pub returns-else-at-lt65536 : goal.returns-else-at-lt65536
unfolding short_of
returns-else-at-lt65536 c = simp (le-ltb _ _ c.if-at-lt65536.false)
