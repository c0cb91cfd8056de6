-- The measure is how many places are left from `start` on.
use Prim.Native.Nat.{◌-◌}
use Rattle.expr.specs.Records.{PARAMETERS}
use Rattle.first_met.proofs.search.+low_from.Given as goal

abbrev pub decreases-low_from : goal.decreases-low_from
decreases-low_from l = PARAMETERS - l.start
