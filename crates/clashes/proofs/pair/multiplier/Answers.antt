-- 0, where the signs are not opposite.
use Rattle.clashes.proofs.Sums.{none_times}
use Rattle.clashes.proofs.pair.multiplier.Goals as goal

pub returns : goal.returns
returns c = none_times
