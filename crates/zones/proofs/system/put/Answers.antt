-- The list with the inequality put in, where it has room.
use mathlib.Core.Path.{sym, ◌∙◌}
use Rattle.inequalities.specs.Put.{put_room, put_past, put_short}
use Rattle.zones.proofs.system.put.Goals as goal

pub returns-then-flat-ge125 : goal.returns-then-flat-ge125
returns-then-flat-ge125 c =
    let a = c.args in
    c.put.ensures ∙ sym (put_room a.flat.now a.k a.e c.if-k-lt25.true c.if-flat-ge125.true)

pub returns-else-flat-ge125 : goal.returns-else-flat-ge125
returns-else-flat-ge125 c =
    let a = c.args in
    sym (put_short a.flat.now a.k a.e c.if-k-lt25.true c.if-flat-ge125.false)

pub returns-else-k-lt25 : goal.returns-else-k-lt25
returns-else-k-lt25 c = let a = c.args in sym (put_past a.flat.now a.k a.e c.if-k-lt25.false)
