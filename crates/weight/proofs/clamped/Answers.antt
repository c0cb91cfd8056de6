-- The nearer end of the range is the number as `saturate` has it.
use Rattle.weight.specs.Fits.{clamp_stored}
use Rattle.weight.proofs.Saturated.{room}
use Rattle.weight.proofs.clamped.Goals as goal

pub returns : goal.returns
returns c = clamp_stored room c.clamp.result c.args.x c.clamp.ensures.value c.ranges.x
