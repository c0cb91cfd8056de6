-- Past the end, all its numbers there, or some of them past the end.
use mathlib.Core.Path.{◌∙◌}
use Rattle.inequalities.proofs.Reading.{past_all, at_from}
use Rattle.inequalities.proofs.flat.inequality.Goals as goal

pub returns-then-flat-k : goal.returns-then-flat-k
returns-then-flat-k c = past_all c.args.flat.now c.args.k c.if-flat-k.true

pub returns-then-at-flat : goal.returns-then-at-flat
returns-then-at-flat c = c.whole.ensures ∙ at_from c.args.flat.now c.args.k

pub returns : goal.returns
returns c = c.ended.ensures ∙ at_from c.args.flat.now c.args.k
