-- `parameters::parameters_read` meets its contract. The invariant: after i steps the ranges are what `iterate` gives. Assumes nothing.
use mathlib.Core.Path.{◌≡◌, refl}
use native.Mathlib.Omega.{arith}
use native.Mathlib.Numerals.{add-one}
use Rattle.cursor.specs.Cursor.{iterate}
use Rattle.parameters.specs.Parameters.{blank_ranges, parameters_read}
use Rattle.parameters.proofs.parameters_read.Goals as goal

pub loop-i-init : goal.loop-i-init
unfolding iterate
loop-i-init c = refl

pub loop-i-preserved : goal.loop-i-preserved
unfolding iterate
loop-i-preserved c = rw add-one (simp (c.range_step-all.ensures, c.loop-i.invariant))

pub returns : goal.returns
unfolding parameters_read blank_ranges
returns c =
    let h : c.loop-i.i ≡ 4 = omega arith in
    simp (c.loop-i.invariant, h, c.byte_field-count.ensures)
