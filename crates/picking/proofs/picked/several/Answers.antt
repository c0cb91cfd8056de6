-- Each end is held as its bits.
use mir.Syntax.{w16}
use mir.ValLaws.{to_z-of_z}
use Rattle.picking.proofs.Steps.{below, not_below}
use borrow.Author.Rules.{rules}
use Rattle.picking.proofs.picked.several.Goals as goal

pub returns : goal.returns
returns c =
    let f = to_z-of_z w16 _ (search rules) in
    let g = to_z-of_z w16 _ (search rules) in
    record {
      yes = λ e. below _ _ f g e;
      no = λ e. not_below _ _ f g e;
    }
