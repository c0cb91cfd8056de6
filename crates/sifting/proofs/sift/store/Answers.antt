-- The list with the inequality put in, where it has room.
use mathlib.Core.Path.{sym, ◌∙◌}
use Rattle.inequalities.specs.Put.{put_room, put_past, put_short}
use Rattle.sifting.proofs.sift.store.Goals as goal

pub returns-then-list-ge125 : goal.returns-then-list-ge125
returns-then-list-ge125 c =
    let a = c.args in
    c.put.ensures ∙ sym (put_room a.list.now a.k a.e c.if-k-lt25.true c.if-list-ge125.true)

pub returns-else-list-ge125 : goal.returns-else-list-ge125
returns-else-list-ge125 c =
    let a = c.args in
    sym (put_short a.list.now a.k a.e c.if-k-lt25.true c.if-list-ge125.false)

pub returns-else-k-lt25 : goal.returns-else-k-lt25
returns-else-k-lt25 c = let a = c.args in sym (put_past a.list.now a.k a.e c.if-k-lt25.false)
