use Rattle.split.specs.Runs.{left}
use Rattle.split.specs.Turns.{Way, part_of}
use Rattle.split.proofs.tests.run.Given as goal

-- The loop's invariant: the part on its way comes to what the first one comes to, and the list has its zone's inequalities.
abbrev pub invariant-loop-halt : goal.invariant-loop-halt
invariant-loop-halt l =
    Way l.r l.zone l.hint.ranges l.list.count
    (part_of l.zone l.initial.new l.initial.test l.initial.tests l.initial.phase l.initial.halt) l.flat
    (part_of l.zone l.new l.test l.tests l.phase l.halt)

abbrev pub decreases-loop-halt : goal.decreases-loop-halt
decreases-loop-halt l = left (part_of l.zone l.new l.test l.tests l.phase l.halt)
