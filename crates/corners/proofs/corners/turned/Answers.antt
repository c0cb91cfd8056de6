-- Each range is turned.
use Rattle.std.proofs.Common.{◌≡◌, rules, arith, length}
use Rattle.expr.specs.Records.{PARAMETERS, blank_range}
use Rattle.corners.specs.Boxes.{turn}
use Rattle.corners.proofs.Lists.{mapped}
use Rattle.corners.proofs.corners.turned.Goals as goal

pub returns : goal.returns
returns c =
    let m = c.map.ensures.items in
    let l : length c.args.b.list ≡ PARAMETERS = omega arith in
    mapped turn blank_range blank_range c.args.b.list c.map.result (omega (arith, m.long, l)) (λ i h.
    let k = m.at i blank_range blank_range (omega (arith, l)) in
    search rules)
