-- The branches are the cases of `reset_line`.
use Rattle.weight_matrix.specs.Tables.{reset_line}
use borrow.Author.Tests.{lt-ltb, le-ltb, eq-eqb, ne_eqb}
use mathlib.Core.Path.{refl}
use Rattle.weight_delay.proofs.reset_line.Goals as goal

pub returns-then-clocks-k : goal.returns-then-clocks-k
unfolding reset_line
returns-then-clocks-k c = rw (lt-ltb _ _ c.if-clocks-k.true) refl

pub returns-then-k-r : goal.returns-then-k-r
unfolding reset_line
returns-then-k-r c = rw (le-ltb _ _ c.if-clocks-k.false, eq-eqb _ _ c.if-k-r.true) c.reset_row.ensures

pub returns : goal.returns
unfolding reset_line
returns c = rw (le-ltb _ _ c.if-clocks-k.false, ne_eqb _ _ c.if-k-r.false) c.reset_column.ensures
