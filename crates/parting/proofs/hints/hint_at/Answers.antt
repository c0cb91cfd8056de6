-- The ranges are those that the list of its inequalities leaves, and the guess is tried in them.
use mathlib.Core.Path.{◌≡◌, refl}
use lib.ListN.{length, get_or}
use Rattle.cells.specs.Cells.{cells_in, no_cell, zone_of}
use Rattle.zones.specs.FlatLaws.{narrows_zone, holds_zone}
use borrow.Author.Rules.{rules}
use Rattle.parting.proofs.hints.hint_at.Goals as goal

pub returns : goal.returns
returns c =
    let a = c.args in
    let z = zone_of a.n (get_or (cells_in a.cells.now a.marks.now) a.p no_cell) in
    let listed = c.rows_at-rows in
    let cut = c.narrowed-ranges in
    let four : length a.b.list ≡ 4 = search rules in
    let left : length cut.result.list ≡ 4 = search rules in record {
      narrows = narrows_zone a.b cut.result z _ listed.result.numbers listed.ensures four cut.ensures;
      held = λ e. holds_zone cut.result z _ listed.result.numbers _ listed.ensures left (c.holds-sure.ensures e);
      same = refl;
    }
