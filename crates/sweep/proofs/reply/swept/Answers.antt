-- The branches are the cases of `swept_table`.
use mathlib.Core.Path.{refl, sym, ◌∙◌}
use Rattle.sweep.specs.TableReply.{swept_table}
use Rattle.sweep.proofs.reply.swept.Goals as goal

pub returns-then-is_void : goal.returns-then-is_void
unfolding swept_table
returns-then-is_void c = rw (sym c.is_void.ensures ∙ c.if-is_void.true) c.blank.ensures

pub returns : goal.returns
unfolding swept_table
returns c = rw (sym c.is_void.ensures ∙ c.if-is_void.false) refl
