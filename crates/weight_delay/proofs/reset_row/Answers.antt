-- Each entry is that of `reset_row`.
use Rattle.weight_matrix.specs.Tables.{reset_row}
use Rattle.weight_matrix.specs.Laws.{list5}
use Rattle.weight_delay.proofs.reset_row.Goals as goal

pub returns : goal.returns
unfolding reset_row
returns c =
    let at-reset-entry4 = c.before.before.before in
    let at-reset-entry3 = at-reset-entry4.before.before.before in
    let at-reset-entry2 = at-reset-entry3.before.before.before in
    let at-reset-entry = at-reset-entry2.before.before.before in
    list5 at-reset-entry.reset_entry.ensures at-reset-entry2.reset_entry-2.ensures at-reset-entry3.reset_entry-3.ensures
    at-reset-entry4.reset_entry-4.ensures c.reset_entry-5.ensures
