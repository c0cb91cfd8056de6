-- It is seen to lie inside and to meet them.
use mathlib.Core.Path.{sym, ◌∙◌}
use Rattle.integer.specs.Apart.{apart}
use Rattle.zones.proofs.hint.holds.Goals as goal

pub returns-then-inside : goal.returns-then-inside
returns-then-inside c = λ e. (c.inside.ensures.yes c.if-inside.true, sym c.meets.ensures ∙ e)

pub returns : goal.returns
returns c = λ e. apart cc
