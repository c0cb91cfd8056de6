-- Two numbers of 16 bits.
use mathlib.Core.Path.{◌∙◌}
use mir.Syntax.{w16}
use mir.Val.{SFits}
use mir.ValLaws.{to_z-of_z}
use Rattle.search_c.proofs.Filled.{range_is}
use borrow.Author.Rules.{rules}
use Rattle.search_c.proofs.range.Goals as goal

pub returns : goal.returns
returns c =
    let low : SFits w16 c.number.result = search rules in
    let high : SFits w16 c.number-2.result = search rules in
    let s = c.args in
    range_is s.s.now s.i _ _ (to_z-of_z w16 _ low ∙ c.number.ensures) (to_z-of_z w16 _ high ∙ c.number-2.ensures)
