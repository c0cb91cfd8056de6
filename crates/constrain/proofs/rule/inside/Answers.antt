-- The branches are the cases of `inside_c`.
use Rattle.constrain.proofs.Steps.{inside_in, inside_out}
use Rattle.constrain.proofs.rule.inside.Goals as goal

pub returns-then-x-lt25 : goal.returns-then-x-lt25
returns-then-x-lt25 c = inside_in _ _ c.if-x-lt25.true

pub returns : goal.returns
returns c = inside_out c.args.x c.args.b c.if-x-lt25.false
