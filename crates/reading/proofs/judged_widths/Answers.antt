-- `judged_widths` meets its contract: the test on the way picks the definition's case. Assumes nothing.
use Rattle.reading.specs.File.{judged_widths, refused_by}
use Rattle.reading.proofs.judged_widths.Goals as goal

pub returns-then-few_valuations : goal.returns-then-few_valuations
unfolding judged_widths refused_by
returns-then-few_valuations c =
    let h = rw c.few_valuations.ensures at c.if-few_valuations.true in
    simp h c.judged_route.ensures

pub returns-else-few_valuations : goal.returns-else-few_valuations
unfolding judged_widths refused_by
returns-else-few_valuations c =
    let h = rw c.few_valuations.ensures at c.if-few_valuations.false in
    simp h
