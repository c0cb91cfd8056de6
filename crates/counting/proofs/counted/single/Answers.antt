-- The corner is the only valuation.
use mathlib.Core.Path.{◌≡◌, sym, ◌∙◌}
use native.Mathlib.Omega.{arith}
use lib.ListN.{length}
use Rattle.expr.specs.Records.{PARAMETERS}
use Rattle.counting.proofs.Nodes.{single_met, single_not}
use Rattle.counting.proofs.counted.single.Goals as goal

pub returns-then-meets : goal.returns-then-meets
returns-then-meets c =
    let l : length c.args.b.list ≡ PARAMETERS = c.well_formed.0.1.1.0.1.0.1 in
    single_met _ c.args.b.list PARAMETERS _ c.corner.ensures (omega arith) c.requires _ c.volume.ensures
    (sym c.meets.ensures ∙ c.if-meets.true)

pub returns : goal.returns
returns c =
    let l : length c.args.b.list ≡ PARAMETERS = c.well_formed.0.1.1.0.1.0.1 in
    single_not _ c.args.b.list PARAMETERS _ c.corner.ensures (omega arith) c.requires
    (sym c.meets.ensures ∙ c.if-meets.false)
