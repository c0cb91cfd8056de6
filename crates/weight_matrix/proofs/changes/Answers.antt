-- The branches are the cases of `guard_changes`.
use mathlib.Core.Path.{refl, ◌∙◌}
use Rattle.weight_matrix.specs.Tables.{guard_changes}
use Rattle.weight_matrix.proofs.Steps.{changes_cut, changes_was}
use Rattle.weight_matrix.proofs.changes.Goals as goal

pub returns-then-top : goal.returns-then-top
unfolding guard_changes
returns-then-top c = rw c.if-top.true refl

pub returns-then-tighter : goal.returns-then-tighter
returns-then-tighter c =
    let s = c.before.before in
    changes_cut _ _ _ _ _ _ s.if-top.false s.sum-around.ensures c.tighter.ensures c.if-tighter.true

pub returns : goal.returns
returns c =
    let t = c.before.before in
    c.tighter-2.ensures
    ∙ changes_was _ _ _ _ _ _ t.if-top.false t.sum-around.ensures t.tighter.ensures c.if-tighter.false
