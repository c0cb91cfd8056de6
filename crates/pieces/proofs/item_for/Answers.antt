-- The two branches are the cases of `item_for`.
use Rattle.cells.specs.Cells.{cells_in}
use Rattle.windows_route.specs.Places.{zone_in}
use Rattle.pieces.proofs.Items.{item_in, item_past}
use Rattle.pieces.proofs.item_for.Goals as goal

pub returns-then-i-min : goal.returns-then-i-min
returns-then-i-min c =
    let a = c.args in
    item_in a.b a.pieces _ a.i (zone_in a.counts.now (cells_in a.cells.now a.marks.now) a.i) _
    c.min.ensures c.if-i-min.true c.piece_at.ensures

pub returns : goal.returns
returns c =
    let a = c.args in
    item_past a.b a.pieces _ a.i (zone_in a.counts.now (cells_in a.cells.now a.marks.now) a.i)
    c.min.ensures c.if-i-min.false
