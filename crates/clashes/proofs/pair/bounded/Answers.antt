-- 0, or a number that the tests leave.
use Rattle.clashes.proofs.Sums.{none_times, tested}
use Rattle.clashes.proofs.pair.bounded.Goals as goal

pub returns-then-z-lt0 : goal.returns-then-z-lt0
returns-then-z-lt0 c = none_times

pub returns-then-z-gt4096 : goal.returns-then-z-gt4096
returns-then-z-gt4096 c = none_times

pub returns : goal.returns
returns c = tested _ c.if-z-lt0.false c.if-z-gt4096.false
