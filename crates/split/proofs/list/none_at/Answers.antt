-- The record is `none_at`.
use Rattle.split.specs.Listed.{none_at}
use mathlib.Core.Path.{refl}
use Rattle.split.proofs.list.none_at.Goals as goal

pub returns : goal.returns
unfolding none_at
returns c = refl
