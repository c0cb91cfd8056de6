-- Both multipliers are at least 0: where the sum is below 0, not both inequalities hold.
use Rattle.clashes.proofs.Sums.{multiplier_held, seen}
use Rattle.clashes.proofs.pair.without.Goals as goal

pub returns : goal.returns
returns c =
    let s = c.args in
    λ q. seen _ _ c.mixed.result s.e s.f s.b.list (multiplier_held _ c.multiplier-l.ensures)
    (multiplier_held _ c.multiplier-m.ensures) c.mixed.ensures.value c.mixed.ensures.small q
