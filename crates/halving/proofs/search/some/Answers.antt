-- Over the ranges of the record, and with inequalities past the end of the list.
use Rattle.halving.specs.Halved.{some_listed}
use Rattle.halving.proofs.search.some.Goals as goal

pub returns : goal.returns
returns c =
    some_listed c.args.b.list c.args.flat.now c.args.n c.min.result c.some_from.result
    c.min.ensures (c.well_formed.0.1.1.0.1.0.1) c.some_from.ensures
