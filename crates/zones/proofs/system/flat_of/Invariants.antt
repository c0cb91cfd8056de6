use Rattle.zones.proofs.Steps.{Copied}
use Rattle.zones.proofs.system.flat_of.Given as goal

-- The zone's inequalities are written one after another.
abbrev pub invariant-loop-i : goal.invariant-loop-i
invariant-loop-i l = Copied l.zone.ineqs l.n l.i l.flat
