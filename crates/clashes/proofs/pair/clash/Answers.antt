-- The plain sum, or the sum without some parameter, is below 0 throughout.
use Rattle.clashes.proofs.Sums.{one_time, seen}
use Rattle.clashes.proofs.pair.clash.Goals as goal

pub mixed-requires : goal.mixed-requires
mixed-requires c = (one_time, one_time)

pub returns-then-mixed-lt0 : goal.returns-then-mixed-lt0
returns-then-mixed-lt0 c =
    let mixed = c.mixed in
    let s = c.args in
    λ q. seen _ _ mixed.result s.e s.f s.b.list one_time one_time mixed.ensures.value mixed.ensures.small c.if-mixed-lt0.true
