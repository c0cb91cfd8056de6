-- The record is `start_c`.
use mathlib.Core.Path.{refl}
use Rattle.split.proofs.cut.start.Goals as goal

pub returns : goal.returns
returns c = refl
