-- The branches are the two cases.
use mathlib.Core.Path.{◌≡◌}
use lib.ListN.{length}
use native.Mathlib.Omega.{arith}
use Rattle.parts.proofs.Steps.{entered_yes, entered_past}
use borrow.Author.Rules.{rules}
use Rattle.parts.proofs.part.entered.Goals as goal

pub returns-then-x-lt25 : goal.returns-then-x-lt25
returns-then-x-lt25 c =
    let a = c.args in
    entered_yes a.r a.p a.x _ _ _ c.if-yes.true c.via.ensures c.put.ensures

pub returns-else-x-lt25 : goal.returns-else-x-lt25
returns-else-x-lt25 c =
    let a = c.args in
    let long : length a.p.zone.bounds ≡ 25 =
    search rules in
    entered_past a.r a.p a.x _ c.if-yes.true (omega (arith, long, c.if-x-lt25.false))
