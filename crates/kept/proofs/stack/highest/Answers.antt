-- The branches are the cases of `top_of`.
use Rattle.kept.proofs.Steps.{top_few, top_same, top_other}
use Rattle.kept.proofs.stack.highest.Goals as goal

pub returns-then-n-lt2 : goal.returns-then-n-lt2
returns-then-n-lt2 c = top_few c.args.s c.if-n-lt2.true

pub returns-then-a-b : goal.returns-then-a-b
returns-then-a-b c =
    top_same c.args.s c.if-n-lt2.false c.if-a-b.true

pub returns : goal.returns
returns c =
    top_other c.args.s c.if-n-lt2.false c.if-a-b.false
