-- The branches are the two cases.
use mathlib.Core.Path.{refl}
use borrow.Author.Tests.{lt-ltb, le-ltb}
use Rattle.settling.proofs.split_at.Goals as goal

pub returns-then-n-lt24 : goal.returns-then-n-lt24
returns-then-n-lt24 c = rw (lt-ltb _ _ c.if-n-lt24.true) refl

pub returns : goal.returns
returns c = rw (le-ltb _ _ c.if-n-lt24.false) refl
