-- Each entry is that of `limited_row`.
use Rattle.weight_matrix.specs.Tables.{limited_row}
use Rattle.weight_matrix.specs.Laws.{list5}
use Rattle.weight_guard.proofs.limited_row.Goals as goal

pub returns : goal.returns
unfolding limited_row
returns c =
    let at-limited-entry4 = c.before.before.before in
    let at-limited-entry3 = at-limited-entry4.before.before.before in
    let at-limited-entry2 = at-limited-entry3.before.before.before in
    let at-limited-entry = at-limited-entry2.before.before.before in
    list5 at-limited-entry.limited_entry.ensures at-limited-entry2.limited_entry-2.ensures
    at-limited-entry3.limited_entry-3.ensures at-limited-entry4.limited_entry-4.ensures c.limited_entry-5.ensures
