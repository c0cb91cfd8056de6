-- The range stays as it is where it has one number at most, or the inequality holds in all of it; otherwise its interval is left.
use native.Mathlib.Omega.{arith}
use mir.Syntax.{w32}
use mir.ValLaws.{to_z-of_z}
use Rattle.std.proofs.lemmas.Int.{ints}
use Rattle.narrowing.proofs.Terms.{less_fits, more_fits, less_tame, part_cut}
use Rattle.narrowing.proofs.boxes.part.Goals as goal

pub overflow_sub-rest : goal.overflow_sub-rest
overflow_sub-rest c =
    let f = less_fits _ _ c.requires c.most.ensures.small in
    omega (arith, ints)

pub overflow_add-rest : goal.overflow_add-rest
overflow_add-rest c =
    let f = less_fits _ _ c.requires c.most.ensures.small in
    let g = more_fits _ _ _ c.requires c.most.ensures.small c.most-2.ensures.small in
    omega (arith, ints)

pub interval-requires : goal.interval-requires
interval-requires c =
    let f = less_fits _ _ c.requires c.most.ensures.small in
    let t = less_tame _ _ c.requires c.most.ensures.small in
    omega (arith, ints)

pub returns : goal.returns
returns c =
    let f = less_fits _ _ c.requires c.most.ensures.small in
    part_cut c.args.a c.args.s c.most.result _ _ _ _ c.interval.ensures (omega (arith, ints))
    (rw (to_z-of_z w32 _ c.ranges.a) at c.most.ensures.value) (omega (arith, ints))
