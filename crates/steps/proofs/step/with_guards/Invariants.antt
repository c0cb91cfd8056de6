use mathlib.Core.Path.{◌≡◌}
use lib.ListN.{drop}
use Rattle.steps.specs.Steps.{with_guards_c}
use Rattle.steps.proofs.step.with_guards.Given as goal

-- The loop's invariant: what is left of the guards, after the steps so far, comes to all of them.
abbrev pub invariant-loop-guard : goal.invariant-loop-guard
invariant-loop-guard l = with_guards_c l.more (drop l.guard-index l.guard-items) ≡ with_guards_c l.fn.steps l.guard-items
