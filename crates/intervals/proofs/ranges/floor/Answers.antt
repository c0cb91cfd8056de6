-- A divisor below 0 turns with the number.
use mathlib.Core.Path.{◌≡◌, refl, sym, ◌∙◌}
use native.Mathlib.Omega.{arith}
use lib.IntN.{ℤ, pos, negsuc, ◌-ℤ◌}
use lib.Signed.{◌<ℤ◌}
use mir.Syntax.{w64}
use mir.Val.{to_z, of_z}
use mir.ValLaws.{to_z-of_z}
use borrow.Author.Rules.{rules}
use Rattle.std.proofs.lemmas.Int.{ints}
use Rattle.std.specs.Int.{int_div_euclid}
use Rattle.integer.specs.Bits.{heard}
use Rattle.integer.specs.Floor.{floor_z, floor_turn}
use Rattle.integer.specs.Split.{zero_minus}
use Rattle.intervals.proofs.ranges.floor.Goals as goal

-- Euclid's quotient by a divisor above 0 is rounded down
rounded_down : (z d : ℤ) → pos 0 <ℤ d → int_div_euclid z d ≡ floor_z z d
unfolding floor_z
rounded_down (pos a) (pos d) h = refl
rounded_down (pos a) (negsuc d) h = absurd h.lt
rounded_down (negsuc a) (pos d) h = refl
rounded_down (negsuc a) (negsuc d) h = absurd h.lt

turned : (z d : ℤ) → d <ℤ pos 0 → floor_z (pos 0 -ℤ z) (pos 0 -ℤ d) ≡ floor_z z d
turned z d h = rw (zero_minus z, zero_minus d) (sym (floor_turn z d h))

pub returns-then-d-gt0 : goal.returns-then-d-gt0
returns-then-d-gt0 c =
    let s = c.args in
    to_z-of_z w64 c.div_euclid.result (search rules)
    ∙ heard int_div_euclid w64 w64 _ s.z s.d c.div_euclid.ensures c.ranges.z c.ranges.d
    ∙ rounded_down s.z s.d (grind (arith, ints))

pub returns : goal.returns
returns c =
    let s = c.args in
    let below : s.d <ℤ pos 0 = grind (arith, ints, c.requires.1.1) in
    let z : to_z w64 (of_z w64 (pos 0 -ℤ to_z w64 (of_z w64 s.z))) ≡ pos 0 -ℤ s.z = omega (arith, ints) in
    let d : to_z w64 (of_z w64 (pos 0 -ℤ to_z w64 (of_z w64 s.d))) ≡ pos 0 -ℤ s.d = omega (arith, ints) in
    to_z-of_z w64 c.div_euclid-2.result (search rules)
    ∙ rw (z, d) at c.div_euclid-2.ensures
    ∙ rounded_down (pos 0 -ℤ s.z) (pos 0 -ℤ s.d) (omega (arith, ints))
    ∙ turned s.z s.d below
