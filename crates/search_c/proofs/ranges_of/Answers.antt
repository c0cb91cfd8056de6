-- The loop's invariant: the places before i hold the ranges of the input.
use native.Mathlib.Omega.{arith}
use Rattle.expr.specs.Records.{blank_range}
use Rattle.search_c.specs.Input.{range_at}
use Rattle.search_c.proofs.Filled.{filled_start, filled_turn, filled_all, ranges_are}
use borrow.Author.Rules.{rules}
use Rattle.search_c.proofs.ranges_of.Goals as goal

pub loop-i-init : goal.loop-i-init
loop-i-init c = (omega arith, filled_start _ _)

pub loop-i-preserved : goal.loop-i-preserved
loop-i-preserved c =
    let loop = c.loop-i in (
      omega arith,
      filled_turn blank_range (range_at c.args.s.now) loop.i _ _ loop.invariant.1
          c.range.ensures,
    )

pub returns : goal.returns
returns c =
    let loop = c.loop-i in
    ranges_are _ _ (filled_all blank_range (range_at c.args.s.now) loop.i _ loop.invariant.1 loop.invariant.0
    (search rules))
