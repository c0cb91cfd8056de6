-- Both tests fail, of a guard of clocks that there can be.
use mathlib.Core.Path.{◌≡◌, sym, ap, subst, ◌∙◌}
use Prim.Native.Nat.{◌+◌, ◌*◌, ◌<◌}
use native.Mathlib.Omega.{arith}
use lib.ListN.{get_or}
use Rattle.cells.specs.Cells.{no_cell, cells_in, zone_of}
use Rattle.cells.specs.CellLaws.{matrix_long}
use Rattle.constrain.specs.Rules.{sum_c, tighter_c}
use Rattle.constrain.specs.RuleLaws.{read_c}
use Rattle.expr.specs.Records.{zero_bound}
use Rattle.expr.specs.declared.bound.Bound.{Bound}
use Rattle.guards.specs.declared.Guard.{Guard}
use Rattle.steps.specs.Steps.{asked_is, asks_clocks}
use Rattle.idle.proofs.Leaves.{idle_is, read_in}
use Rattle.idle.proofs.idle.Goals as goal

pub returns-then-fails : goal.returns-then-fails
returns-then-fails c =
    let a = c.args in
    let cell = get_or (cells_in a.cells.now a.marks.now) a.p no_cell in
    let g = c.in-Some.guard in
    let asked = asked_is a.step g c.in-Some.ensures in
    let few = asks_clocks a.step asked.0 in
    let few-left : g.left < 5 = subst (λ (x : Guard). x.left < 5) (sym asked.1) few.0 in
    let few-right : g.right < 5 = subst (λ (x : Guard). x.right < 5) (sym asked.1) few.1 in
    let left = c.from-left in
    let right = c.from-right in
    let first : c.tighter.result ≡ tighter_c (sum_c g.bound (read_c cell.bounds (5 * right.result + left.result))) zero_bound =
    c.tighter.ensures ∙ ap (λ (x : Bound). tighter_c x zero_bound) (c.sum.ensures ∙ ap (sum_c g.bound) c.bound_at-back.ensures) in
    let second : c.tighter-then-fails.result ≡ tighter_c g.bound (read_c cell.bounds (5 * left.result + right.result)) =
    c.tighter-then-fails.ensures ∙ ap (tighter_c g.bound) c.bound_at-there.ensures in
    λ e n. idle_is a.hint a.step (zone_of n cell) asked.0 (matrix_long a.cells.now a.marks.now a.p c.requires.1)
    g asked.1 left.result right.result left.ensures right.ensures _ _
    (first ∙ ap (λ (x : Bound). tighter_c (sum_c g.bound x) zero_bound)
    (read_in cell.bounds (5 * right.result + left.result) (omega (arith, left.ensures, right.ensures))))
    (second ∙ ap (tighter_c g.bound)
    (read_in cell.bounds (5 * left.result + right.result) (omega (arith, left.ensures, right.ensures))))
    (c.fails.ensures c.if-fails.true) (c.fails-then-fails.ensures e)
