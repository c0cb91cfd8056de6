-- The branches are the cases of `reset_if`.
use Rattle.weight_matrix.specs.Tables.{reset_if}
use borrow.Author.Tests.{le-leb, lt-leb, eq-eqb, ne_eqb}
use mathlib.Core.Path.{refl}
use Rattle.weight_delay.proofs.reset_if.Goals as goal

pub returns-then-r-clocks : goal.returns-then-r-clocks
unfolding reset_if
returns-then-r-clocks c = rw (eq-eqb _ _ c.if-bit-eq1.true, le-leb _ _ c.if-r-clocks.true) c.reset.ensures

pub returns-else-r-clocks : goal.returns-else-r-clocks
unfolding reset_if
returns-else-r-clocks c = rw (eq-eqb _ _ c.if-bit-eq1.true, lt-leb _ _ c.if-r-clocks.false) refl

pub returns-else-bit-eq1 : goal.returns-else-bit-eq1
unfolding reset_if
returns-else-bit-eq1 c = rw (ne_eqb _ _ c.if-bit-eq1.false) refl
