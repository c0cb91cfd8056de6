-- The branches are the cases of `step_of`.
use mathlib.Core.Path.{refl}
use borrow.Author.Tests.{lt-ltb, le-ltb}
use Rattle.kept.specs.Stacks.{step_of}
use Rattle.kept.proofs.stack.step.Goals as goal

pub returns-then-k-lt2 : goal.returns-then-k-lt2
unfolding step_of
returns-then-k-lt2 c = rw (c.if-joined.true, lt-ltb _ _ c.if-k-lt2.true) refl

pub returns-then-joined : goal.returns-then-joined
unfolding step_of
returns-then-joined c = rw (c.if-joined.true, le-ltb _ _ c.if-k-lt2.false, c.saturating_sub.ensures) refl

pub returns-then-k-n : goal.returns-then-k-n
unfolding step_of
returns-then-k-n c = rw (c.if-joined.false, lt-ltb _ _ c.if-i-n.true, lt-ltb _ _ c.if-k-n.true) refl

pub returns-else-k-n : goal.returns-else-k-n
unfolding step_of
returns-else-k-n c = rw (c.if-joined.false, lt-ltb _ _ c.if-i-n.true, le-ltb _ _ c.if-k-n.false) refl

pub returns-else-i-n : goal.returns-else-i-n
unfolding step_of
returns-else-i-n c = rw (c.if-joined.false, le-ltb _ _ c.if-i-n.false) refl
