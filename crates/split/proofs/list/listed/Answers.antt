-- The branches are the cases of `list_c`.
use Rattle.split.proofs.Steps.{listed_refused, listed_more, listed_full}
use mathlib.Core.Path.{◌∙◌}
use Rattle.split.proofs.list.listed.Goals as goal

pub returns-then-out-gt0 : goal.returns-then-out-gt0
returns-then-out-gt0 c =
    let a = c.args in
    listed_refused a.zone a.tests a.out c.if-out-gt0.true

pub returns-then-n-lt32 : goal.returns-then-n-lt32
returns-then-n-lt32 c =
    let a = c.args in
    listed_more a.zone a.tests a.out c.if-out-gt0.false c.if-n-lt32.true

pub returns : goal.returns
returns c =
    let a = c.args in
    c.refused.ensures ∙ listed_full a.zone a.tests a.out c.if-out-gt0.false c.if-n-lt32.false
