-- `guards_by_field` meets its contract. The invariant: after i steps the list is what `iterate` gives. Assumes nothing.
use mathlib.Core.Path.{◌≡◌, refl}
use native.Mathlib.Omega.{arith}
use native.Mathlib.Numerals.{add-one}
use Rattle.cursor.specs.Cursor.{iterate}
use Rattle.guards.specs.Guards.{blank_guards, blank_guard}
use Rattle.guard_lists.specs.Listed.{guards_from}
use Rattle.guard_lists.proofs.guards_by_field.Goals as goal

pub loop-i-init : goal.loop-i-init
unfolding iterate
loop-i-init c = refl

pub guard_step-list-requires : goal.guard_step-list-requires
unfolding iterate
guard_step-list-requires c = omega arith

pub loop-i-preserved : goal.loop-i-preserved
unfolding iterate
loop-i-preserved c = rw add-one (simp (c.guard_step-list.ensures, c.loop-i.invariant))

pub returns : goal.returns
unfolding guards_from blank_guards blank_guard
returns c =
    let h : c.loop-i.i ≡ 6 = omega arith in
    simp (c.loop-i.invariant, h)
