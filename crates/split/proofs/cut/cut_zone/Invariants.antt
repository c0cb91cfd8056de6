use Rattle.split.specs.Stack.{Turned, drained, load}
use Rattle.split.proofs.cut.cut_zone.Given as goal

-- The loop's invariant: the parts on the stack, worked from the top down, come to what the zone comes to.
abbrev pub invariant-loop-n : goal.invariant-loop-n
invariant-loop-n l = Turned l.b l.r l.stack l.n l.now (drained l.b l.r l.initial.stack l.initial.n l.initial.now)

abbrev pub decreases-loop-n : goal.decreases-loop-n
decreases-loop-n l = load l.stack l.n
