-- The branches are the rules of `guarded_table`, in order.
use mathlib.Core.Path.{◌∙◌}
use Rattle.weight_guard.proofs.Steps.{guard_past_i, guard_past_j, guard_void, guard_cut, guard_limited, guard_stays}
use Rattle.weight_guard.proofs.guarded.Goals as goal

pub returns-then-i-gt4 : goal.returns-then-i-gt4
returns-then-i-gt4 c = guard_past_i c.args.m c.args.clocks c.args.i c.args.j c.args.e
    c.if-i-gt4.true

pub returns-then-j-gt4 : goal.returns-then-j-gt4
returns-then-j-gt4 c = guard_past_j c.args.m c.args.clocks c.args.i
    c.args.j c.args.e c.if-i-gt4.false c.if-j-gt4.true

pub returns-then-is_void : goal.returns-then-is_void
returns-then-is_void c = guard_void c.args.m c.args.clocks
    c.args.i c.args.j
    c.args.e c.if-i-gt4.false c.if-j-gt4.false _
    c.is_void.ensures c.if-is_void.true

pub returns-then-tighter : goal.returns-then-tighter
returns-then-tighter c =
    let at-tighter = c.before.before in
    let at_sum = at-tighter.before in
    let tested-3 = at_sum.before.before in
    let at-is-void = tested-3.before in
    let tested-2 = at-is-void.before in
    let tested-1 = tested-2.before in
    let start = tested-1.before in
    c.void.ensures ∙ guard_cut start.args.m start.args.clocks start.args.i start.args.j start.args.e
    tested-1.if-i-gt4.false tested-2.if-j-gt4.false _ at-is-void.is_void.ensures tested-3.if-is_void.false _ _ at_sum.sum.ensures
    at-tighter.tighter.ensures c.if-tighter.true

pub returns-then-tighter-2 : goal.returns-then-tighter-2
returns-then-tighter-2 c =
    let at-tighter2 = c.before.before in
    let tested-4 = at-tighter2.before.before in
    let at-tighter = tested-4.before in
    let at_sum = at-tighter.before in
    let tested-3 = at_sum.before.before in
    let at-is-void = tested-3.before in
    let tested-2 = at-is-void.before in
    let tested-1 = tested-2.before in
    let start = tested-1.before in
    c.limited.ensures ∙ guard_limited start.args.m start.args.clocks start.args.i start.args.j start.args.e
    tested-1.if-i-gt4.false tested-2.if-j-gt4.false _ at-is-void.is_void.ensures tested-3.if-is_void.false _ _ at_sum.sum.ensures
    at-tighter.tighter.ensures tested-4.if-tighter.false _ at-tighter2.tighter-2.ensures c.if-tighter-2.true

pub returns : goal.returns
returns c =
    let tested-4 = c.before.before.before in
    let at-tighter = tested-4.before in
    let at_sum = at-tighter.before in
    let tested-3 = at_sum.before.before in
    let at-is-void = tested-3.before in
    let tested-2 = at-is-void.before in
    let tested-1 = tested-2.before in
    let start = tested-1.before in
    guard_stays start.args.m start.args.clocks start.args.i start.args.j start.args.e tested-1.if-i-gt4.false
    tested-2.if-j-gt4.false _ at-is-void.is_void.ensures tested-3.if-is_void.false _ _ at_sum.sum.ensures
    at-tighter.tighter.ensures tested-4.if-tighter.false _ c.tighter-2.ensures c.if-tighter-2.false
