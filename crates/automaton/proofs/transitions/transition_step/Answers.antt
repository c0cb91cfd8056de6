-- `transitions::transition_step` meets its contract: the test on the way picks the definition's case. Assumes nothing.
use borrow.Author.Tests.{lt-ltb, le-ltb}
use Rattle.automaton.specs.Automaton.{transition_step}
use Rattle.automaton.proofs.transitions.transition_step.Goals as goal

pub returns-then-i-all : goal.returns-then-i-all
unfolding transition_step
returns-then-i-all c = simp (lt-ltb _ _ c.if-i-all.true, c.transition_at-read.ensures)

pub returns-else-i-all : goal.returns-else-i-all
unfolding transition_step
returns-else-i-all c = simp (le-ltb _ _ c.if-i-all.false)
