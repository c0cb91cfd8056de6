-- `guards::bound_of` meets its contract: it is the definition's record. Assumes nothing.
use mathlib.Core.Path.{refl}
use Rattle.guards.specs.Guards.{guard_bound}
use Rattle.guards.proofs.bound_of.Goals as goal

pub returns : goal.returns
unfolding guard_bound
returns c = refl
