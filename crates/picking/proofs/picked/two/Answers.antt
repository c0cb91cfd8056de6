-- The loop's invariant: the ranges before i, but those at w and t, have one number at most.
use mathlib.Core.Path.{◌≡◌}
use native.Mathlib.Omega.{arith}
use lib.ListN.{length}
use Rattle.integer.specs.Apart.{apart}
use Rattle.expr.specs.Records.{PARAMETERS}
use Rattle.picking.proofs.Steps.{two_more}
use Rattle.picking.proofs.picked.two.Goals as goal

pub loop-i-init : goal.loop-i-init
loop-i-init c =
    let l : length c.args.b.list ≡ PARAMETERS = c.well_formed.0.1.1.0.1.0.1 in
    (omega arith, l, λ j h. absurd (omega arith))

pub returns-then-third : goal.returns-then-third
returns-then-third c = λ e. apart cc

pub loop-i-preserved : goal.loop-i-preserved
loop-i-preserved c =
    let loop = c.loop-i in
    let here = c.third.ensures c.if-third.false in
    (omega arith, loop.invariant.1, two_more c.args.b.list c.args.w c.args.t loop.i loop.invariant.2 here)

pub returns : goal.returns
returns c =
    let loop = c.loop-i in
    λ e j h. loop.invariant.2 j (omega (arith, loop.invariant.1, c.loop-i-test.false))
