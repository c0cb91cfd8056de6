-- The first place whose range has several numbers, if there is one.
use Rattle.std.proofs.Common.{◌≡◌, None, arith}
use Rattle.corners.specs.Boxes.{Points}
use Rattle.picking.proofs.Steps.{first_wide, none_wide}
use Rattle.picking.proofs.picked.narrowest.Goals as goal

pub returns-in_err-first-clause-none : goal.returns-in_err-first-clause-none
returns-in_err-first-clause-none c =
    let points : Points 4 c.args.b.list = none_wide _ _ c.wide.ensures cc in
    let none : c.from_residual.result ≡ None = cc in
    rw none points

pub overflow_step-i : goal.overflow_step-i
overflow_step-i c = omega (arith, (first_wide _ c.in_ok-first.first _ c.wide.ensures cc).0)

pub loop-i-init : goal.loop-i-init
loop-i-init c = first_wide _ c.in_ok-first.first _ c.wide.ensures cc
