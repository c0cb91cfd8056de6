-- The entries that are read, and what becomes of them.
use Rattle.cells.specs.Cells.{cells_in}
use Rattle.running.specs.Asks.{asking_is}
use Rattle.running.specs.Tasks.{rule_at}
use Rattle.running.proofs.tests.asked_at.Goals as goal

pub returns : goal.returns
returns c =
    let a = c.args in
    asking_is (rule_at (cells_in a.cells.now a.marks.now) a.old a.g) a.phase c.places-at.result _ _ _
    c.via-via.result c.tighter.result c.places-at.ensures c.bound_at-first.ensures
    c.bound_at-last.ensures c.bound_at-was.ensures c.via-via.ensures c.tighter.ensures
