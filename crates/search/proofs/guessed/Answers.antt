-- A guess that was seen to lie inside the ranges and to meet the inequalities.
use mathlib.Core.Path.{sym, ◌∙◌}
use Rattle.integer.specs.Apart.{apart}
use Rattle.search.proofs.guessed.Goals as goal

pub returns-then-value_at-lt0 : goal.returns-then-value_at-lt0
returns-then-value_at-lt0 c = λ e. apart cc

pub returns-then-inside : goal.returns-then-inside
returns-then-inside c = λ e. (c.inside.ensures.yes c.if-inside.true, sym c.meets.ensures ∙ e)

pub returns : goal.returns
returns c = λ e. apart cc
