-- The branches are the cases of `more_c`.
use Rattle.zones.proofs.Steps.{more_in, more_full}
use Rattle.zones.proofs.zone.with_inequality.Goals as goal

pub returns-then-n-lt24 : goal.returns-then-n-lt24
returns-then-n-lt24 c = more_in c.args.zone c.args.e c.if-n-lt24.true

pub returns : goal.returns
returns c = more_full c.args.zone c.args.e c.if-n-lt24.false
