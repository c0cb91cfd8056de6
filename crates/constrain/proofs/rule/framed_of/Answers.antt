-- The entries, and the place behind them.
use mathlib.Core.Path.{ap}
use mathlib.Core.List.{List, ◌++◌, ◌∷◌, []}
use Rattle.expr.specs.Records.{zero_bound}
use Rattle.expr.specs.declared.bound.Bound.{Bound}
use Rattle.constrain.specs.Rules.{framed_c}
use Rattle.constrain.proofs.rule.framed_of.Goals as goal

pub returns : goal.returns
unfolding framed_c
returns c = ap (λ (m : List Bound). m ++ (zero_bound ∷ [])) c.copy_from_slice.ensures.after
