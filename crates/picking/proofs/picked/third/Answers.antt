-- w and t are not asked.
use Rattle.picking.proofs.picked.third.Goals as goal

pub returns-then-i-w : goal.returns-then-i-w
returns-then-i-w c = λ e p q. absurd (p c.if-i-w.true)

pub returns-then-i-t : goal.returns-then-i-t
returns-then-i-t c = λ e p q. absurd (q c.if-i-t.true)

pub returns : goal.returns
returns c = λ e p q. c.several.ensures.no e
