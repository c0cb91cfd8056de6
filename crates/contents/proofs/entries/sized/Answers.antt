-- `entries::sized` meets its contract: the range's test is the definition's. Assumes nothing.
use Rattle.std.proofs.Common.{arith}
use Rattle.std.proofs.lemmas.Grind.{common_steps}
use Rattle.contents.specs.Contents.{sized}
use Rattle.contents.proofs.entries.sized.Goals as goal

pub returns : goal.returns
unfolding sized
returns c = grind (arith, common_steps)
