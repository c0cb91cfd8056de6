-- The branches are the cases of `refused_c`.
use Rattle.split.proofs.Steps.{refused_now, refused_before}
use Rattle.split.proofs.list.refused.Goals as goal

pub returns-then-out-eq0 : goal.returns-then-out-eq0
returns-then-out-eq0 c = refused_now c.args.number c.args.out c.if-out-eq0.true

pub returns : goal.returns
returns c = refused_before c.args.number c.args.out c.if-out-eq0.false
