-- The ranges are those that the list of its inequalities leaves, and the guess is tried in them.
use mathlib.Core.Path.{◌≡◌, refl}
use lib.ListN.{length}
use Rattle.zones.specs.FlatLaws.{narrows_zone, holds_zone}
use borrow.Author.Rules.{rules}
use Rattle.zones.proofs.hint.hint_of.Goals as goal

pub returns : goal.returns
returns c =
    let a = c.args in
    let four : length a.b.list ≡ 4 = search rules in
    let left : length c.narrowed-ranges.result.list ≡ 4 = search rules in record {
      narrows = narrows_zone a.b c.narrowed-ranges.result a.zone _ c.flat_of-list.result.numbers c.flat_of-list.ensures.count_value four
          c.narrowed-ranges.ensures;
      held = λ e. holds_zone c.narrowed-ranges.result a.zone _ c.flat_of-list.result.numbers a.guess.numbers
          c.flat_of-list.ensures.count_value left (c.holds-sure.ensures e);
      new = refl;
    }
