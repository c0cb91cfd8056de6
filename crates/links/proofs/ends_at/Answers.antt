-- `ends_at` meets its contract: the first two bytes of the transition are read. Assumes nothing.
use Rattle.links.proofs.Steps.{ends_here, ends_past, ends_none}
use Rattle.links.proofs.ends_at.Goals as goal

pub returns-then-i-ix : goal.returns-then-i-ix
returns-then-i-ix c =
    let to = c.before.before in
    let from = to.before in
    let start = from.before in
    ends_here _ _ _ _ _ start.if-i-lt32.true start.if-i-ix.true
    (rw start.standing-start.ensures at from.below_field-from.ensures) to.below_field-to.ensures

pub returns-else-i-ix : goal.returns-else-i-ix
returns-else-i-ix c = ends_past _ _ _ c.if-i-lt32.true c.if-i-ix.false

pub returns-else-i-lt32 : goal.returns-else-i-lt32
returns-else-i-lt32 c = ends_none _ _ _ c.if-i-lt32.false
