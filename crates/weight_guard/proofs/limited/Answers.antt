-- Each row is that of `limited_table`.
use Rattle.weight_matrix.specs.Laws.{list5}
use Rattle.weight_matrix.specs.Tables.{limited_table, limited_line}
use Rattle.weight_guard.proofs.limited.Goals as goal

pub returns : goal.returns
unfolding limited_table limited_line
returns c =
    let four = c.before.before.before in
    let three = four.before.before.before in
    let two = three.before.before.before in
    list5 two.limited_line.ensures two.limited_line-2.ensures three.limited_line-3.ensures
    four.limited_line-4.ensures c.limited_line-5.ensures
