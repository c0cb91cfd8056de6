-- Each row is that of `reset_table`.
use Rattle.weight_matrix.specs.Tables.{reset_table}
use Rattle.weight_matrix.specs.Laws.{list5}
use Rattle.weight_delay.proofs.reset.Goals as goal

pub returns : goal.returns
unfolding reset_table
returns c = list5 c.reset_line.ensures c.reset_line-2.ensures
    c.reset_line-3.ensures c.reset_line-4.ensures c.reset_line-5.ensures
