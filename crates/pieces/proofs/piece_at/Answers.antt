-- Inequalities and entries are read one after another.
use mathlib.Core.Path.{◌≡◌, refl, ap, ◌∙◌}
use mathlib.Core.Bool.{true}
use native.Mathlib.Omega.{arith}
use lib.ListN.{length, get_or}
use Rattle.cells.specs.Cells.{no_cell, cells_in}
use Rattle.expr.specs.declared.number.Valuation.{Valuation}
use Rattle.holding.proofs.First.{first_held_is}
use Rattle.pieces.proofs.Reading.{reading_turn, reading_ends, rows_first}
use borrow.Author.Rules.{rules}
use Rattle.pieces.proofs.piece_at.Goals as goal

pub loop-i-init : goal.loop-i-init
loop-i-init c =
    record {
      used = refl;
      first = refl;
      count = refl;
      few = omega arith;
      ineqs_long = refl;
      bounds_long = refl;
      ineqs = λ j h. absurd (omega arith);
      bounds = λ j h. absurd (omega arith);
    }

pub loop-i-preserved : goal.loop-i-preserved
loop-i-preserved c =
    let loop = c.loop-i in
    let a = c.args in
    let four : length c.inequality.result.coefs ≡ 4 = search rules in
    reading_turn a.cells.now a.marks.now a.p a.n loop.i _ loop.z c.inequality.result c.bound_at.result
    loop.invariant c.loop-i-test.true four c.inequality.ensures c.bound_at.ensures

pub returns : goal.returns
returns c =
    let loop = c.loop-i in
    let a = c.args in
    let cell = get_or (cells_in a.cells.now a.marks.now) a.p no_cell in
    let few = c.requires.1.1 in
    reading_ends a.cells.now a.marks.now a.p a.n loop.i _ loop.z c.bound_at-2.result few loop.invariant
    (search rules) c.bound_at-2.ensures
    ∙ ap (λ (v : Valuation). record { used = true; first = v; count = a.n; ineqs = cell.ineqs; bounds = cell.bounds })
    (c.unwrap_or-first.ensures
    ∙ first_held_is a.b c.first.result _ _ (rows_first a.cells.now a.marks.now a.p a.n _ few c.min.ensures) c.first.ensures)
