-- The branches are the cases.
use Rattle.running.proofs.tests.learned.Goals as goal

pub returns-then-v : goal.returns-then-v
returns-then-v c = rw c.if-v.true c.noted.ensures

pub returns : goal.returns
returns c = rw c.if-v.false c.found.ensures
