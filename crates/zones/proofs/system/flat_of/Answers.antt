-- The zone's inequalities are written one after another.
use mathlib.Core.Path.{◌≡◌, refl, subst, sym}
use native.Mathlib.Omega.{arith}
use lib.ListN.{length}
use Rattle.inequalities.specs.Flat.{exprs_from}
use Rattle.zones.proofs.Steps.{Copied, copied_turn, copied_all}
use borrow.Author.Rules.{rules}
use Rattle.zones.proofs.system.flat_of.Goals as goal

pub loop-i-init : goal.loop-i-init
unfolding exprs_from
loop-i-init c =
    let l : length c.args.zone.ineqs ≡ 24 = search rules in
    record { few = omega (arith, c.min-n.ensures); within = omega arith; long = refl; zone_long = l; same = refl }

pub offset_bounds-zone-i : goal.offset_bounds-zone-i
offset_bounds-zone-i c = omega (arith, c.loop-i.invariant.few)

pub bounds-zone-i : goal.bounds-zone-i
bounds-zone-i c = omega (arith, c.loop-i.invariant.few)

pub loop-i-preserved : goal.loop-i-preserved
loop-i-preserved c =
    let a = c.args in
    subst (Copied a.zone.ineqs _ _) (sym c.put.ensures)
    (copied_turn a.zone.ineqs _ c.loop-i.i c.loop-i.flat c.loop-i.invariant
    c.loop-i-test.true)

pub returns : goal.returns
returns c =
    let loop = c.loop-i in
    let a = c.args in record {
      count_value = copied_all a.zone.ineqs _ loop.i a.zone.count loop.flat c.min-n.ensures loop.invariant c.loop-i-test.false;
      counted = c.min-n.ensures;
    }
