-- Two numbers that were clamped have a sum that fits.
use lib.IntN.{◌+ℤ◌}
use mir.Syntax.{w32}
use Rattle.integer.specs.Bits.{op_fits, op_back}
use Rattle.weight.specs.Fits.{within_fits, sum_fits}
use Rattle.saturating.specs.Sums.{told, room, clamped_in}
use Rattle.saturating.proofs.sum.Goals as goal

pub overflow_add-result : goal.overflow_add-result
overflow_add-result c =
    let s = c.before.before in
    op_fits ◌+ℤ◌ w32 _ _ _ _ (told _ c.clamped.ensures s.ranges.x) (told _ c.clamped-2.ensures s.ranges.y)
    (within_fits room _ (clamped_in _)) (within_fits room _ (clamped_in _)) (sum_fits room _ _ (clamped_in _) (clamped_in _))

pub returns : goal.returns
returns c =
    let s = c.before.before in
    op_back ◌+ℤ◌ w32 _ _ _ _ (told _ c.clamped.ensures s.ranges.x) (told _ c.clamped-2.ensures s.ranges.y)
    (within_fits room _ (clamped_in _)) (within_fits room _ (clamped_in _)) (sum_fits room _ _ (clamped_in _) (clamped_in _))
