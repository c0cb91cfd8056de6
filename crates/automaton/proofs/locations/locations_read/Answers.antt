-- `locations::locations_read` meets its contract. The invariant: after i steps the locations are what `iterate` gives. Assumes nothing.
use mathlib.Core.Path.{◌≡◌, refl}
use native.Mathlib.Omega.{arith}
use native.Mathlib.Numerals.{add-one}
use Rattle.cursor.specs.Cursor.{iterate}
use Rattle.automaton.specs.Automaton.{locations_read, blank_locations, blank_location}
use Rattle.guards.specs.Guards.{blank_guards, blank_guard}
use Rattle.automaton.proofs.locations.locations_read.Goals as goal

pub loop-i-init : goal.loop-i-init
unfolding iterate
loop-i-init c = refl

pub location_step-all-requires : goal.location_step-all-requires
unfolding iterate
location_step-all-requires c = omega arith

pub loop-i-preserved : goal.loop-i-preserved
unfolding iterate
loop-i-preserved c = rw add-one (simp (c.location_step-all.ensures, c.loop-i.invariant))

pub returns : goal.returns
unfolding locations_read blank_locations blank_location blank_guards blank_guard
returns c =
    let h : c.loop-i.i ≡ 16 = omega arith in
    simp (
      c.loop-i.invariant,
      h,
      c.byte_field-count.ensures,
      c.byte_field-clocks.ensures,
    )
