-- The branches are the two cases.
use mathlib.Core.Path.{refl}
use Rattle.zones.proofs.hint.better.Goals as goal

pub returns-then-so : goal.returns-then-so
returns-then-so c = rw c.if-so.true refl

pub returns : goal.returns
returns c = rw c.if-so.false refl
