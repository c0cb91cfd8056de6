-- The branches are the cases of `question_c`, where the part stops.
use mathlib.Core.Path.{refl, sym, ◌∙◌}
use Rattle.parts.proofs.part.question_after.Goals as goal

pub returns-then-is_settled : goal.returns-then-is_settled
returns-then-is_settled c = rw (sym c.is_settled.ensures ∙ c.if-is_settled.true) refl

pub returns-in-Yes : goal.returns-in-Yes
returns-in-Yes c = rw (sym c.is_settled.ensures ∙ c.if-is_settled.false, c.in-Yes.is) refl

pub returns-in-No : goal.returns-in-No
returns-in-No c = rw (sym c.is_settled.ensures ∙ c.if-is_settled.false, c.in-No.is) refl

pub returns-in-Ask : goal.returns-in-Ask
returns-in-Ask c = rw (sym c.is_settled.ensures ∙ c.if-is_settled.false, c.in-Ask.is) refl
