-- The first i items are stored.
use mathlib.Core.Path.{sym, ◌∙◌}
use native.Mathlib.Omega.{arith}
use lib.ListN.{length}
use Rattle.std.proofs.Common.{ext_get_or}
use Rattle.std.proofs.lemmas.Grind.{common_steps}
use Rattle.pieces.specs.Pieces.{blank_piece}
use Rattle.pieces.specs.Table.{work_in, items_of, items_length, items_at}
use Rattle.windows.proofs.Items.{item_at}
use Rattle.windows.proofs.table.store.Goals as goal

pub loop-i-preserved : goal.loop-i-preserved
loop-i-preserved c =
    let a = c.args in
    let loop = c.loop-i in
    let x = c.item_for.ensures ∙ item_at a.b a.pieces a.cells.now a.marks.now a.counts.now loop.i in
    λ k h. grind (arith, common_steps, x, loop.invariant k)

pub returns : goal.returns
returns c =
    let a = c.args in
    let loop = c.loop-i in
    let work = work_in a.b a.pieces a.cells.now a.marks.now a.counts.now in
    let n = length a.table.now in
    ext_get_or blank_piece loop.table (items_of work n) (loop.auto.table ∙ sym (items_length work n))
    (λ k h. loop.invariant k (omega (arith, loop.auto.table)) ∙ sym (items_at work n k (omega (arith, loop.auto.table))))
