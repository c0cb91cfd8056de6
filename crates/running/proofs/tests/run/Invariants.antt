use lib.ListN.{get_or}
use Rattle.cells.specs.Cells.{no_cell, cells_in, zone_of}
use Rattle.split.specs.Runs.{left}
use Rattle.split.specs.Turns.{Way, part_of}
use Rattle.split.specs.Turns.{Knowing}
use Rattle.running.specs.Tasks.{rule_at}
use Rattle.running.specs.Working.{Working, matrix_at}
use Rattle.running.proofs.tests.run.Given as goal

-- The loop's invariant: the part on its way comes to what the first one comes to, the list has its zone's inequalities, what is known of
-- the zone can be trusted, and no place but its own has changed.
abbrev pub invariant-loop-halt : goal.invariant-loop-halt
invariant-loop-halt l =
    let cs = cells_in l.initial.cells l.initial.marks in
    let z = zone_of l.n (get_or cs l.p no_cell) in
    Way (rule_at cs l.old l.g) z l.initial.known.ranges l.n
    (part_of z (matrix_at l.p l.initial.cells l.initial.marks) l.initial.test l.initial.tests l.initial.phase l.initial.halt) l.flat
    (part_of z (matrix_at l.p l.cells l.marks) l.test l.tests l.phase l.halt)
    × (Knowing z l.initial.known l.known × Working cs l.p l.cells l.marks)

abbrev pub decreases-loop-halt : goal.decreases-loop-halt
decreases-loop-halt l =
    left
    (part_of (zone_of l.n (get_or (cells_in l.initial.cells l.initial.marks) l.p no_cell)) (matrix_at l.p l.cells l.marks) l.test l.tests
    l.phase l.halt)
