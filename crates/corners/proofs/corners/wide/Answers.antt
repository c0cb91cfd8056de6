-- The loop's invariant: the first from i on is the first from the start on.
use mathlib.Core.Path.{refl}
use mir.Syntax.{w16}
use mir.ValLaws.{to_z-of_z}
use Rattle.corners.proofs.Lists.{wide_here, wide_next, wide_none}
use borrow.Author.Rules.{rules}
use Rattle.corners.proofs.corners.wide.Goals as goal

pub loop-i-init : goal.loop-i-init
loop-i-init c = refl

pub returns-then-r : goal.returns-then-r
returns-then-r c =
    let loop = c.loop-i in
    wide_here _ loop.i _ _ _ (search rules) (to_z-of_z w16 _ (search rules))
    (to_z-of_z w16 _ (search rules)) c.if-r.true loop.invariant

pub loop-i-preserved : goal.loop-i-preserved
loop-i-preserved c =
    let loop = c.loop-i in
    wide_next _ loop.i _ _ _ (search rules) (to_z-of_z w16 _ (search rules))
    (to_z-of_z w16 _ (search rules)) c.if-r.false loop.invariant

pub returns : goal.returns
returns c = wide_none _ c.loop-i.i _ (search rules) c.loop-i.invariant
