-- Refused, or the zones with their counts.
use mathlib.Core.Path.{◌∙◌}
use Rattle.windows_reply.proofs.Steps.{all_is, kept_is, listed_refused, listed_zones}
use Rattle.windows_reply.proofs.listed.Goals as goal

pub returns-then-end-gt0 : goal.returns-then-end-gt0
returns-then-end-gt0 c =
    let a = c.args in
    listed_refused a.b a.end a.cells.now a.marks.now a.counts.now c.refused.result
    c.if-end-gt0.true c.refused.ensures

pub returns : goal.returns
returns c =
    let a = c.args in
    listed_zones a.b a.end a.cells.now a.marks.now a.counts.now c.kept-kept.result
    c.count-all.result c.saturating_sub.result c.if-end-gt0.false
    (c.kept-kept.ensures ∙ kept_is a.b a.cells.now a.marks.now a.counts.now a.end.count)
    (all_is a.b a.cells.now c.count-all.result c.count-all.ensures c.requires.0) c.saturating_sub.ensures
