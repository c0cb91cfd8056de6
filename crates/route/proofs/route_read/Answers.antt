-- `route::route_read` meets its contract. The invariant: after i bytes the route is what `iterate` gives. Assumes nothing.
use native.Mathlib.Omega.{arith}
use borrow.Author.Rules.{rules}
use Rattle.route.proofs.RouteSteps.{read_begun, read_more, read_done}
use Rattle.route.proofs.route_read.Goals as goal

pub loop-i-init : goal.loop-i-init
loop-i-init c = read_begun _ _ _ _

pub bounds-list-i : goal.bounds-list-i
bounds-list-i c =
    let few = (rw c.from.ensures at c.min-n.ensures) in
    search rules

pub loop-i-preserved : goal.loop-i-preserved
loop-i-preserved c =
    let at-loop = c.before.before in
    let few = (rw at-loop.from.ensures at at-loop.min-n.ensures) in
    read_more _ _ _ _ _ _ _ _ (omega arith) at-loop.loop-i.invariant c.below_field-number.ensures

pub returns : goal.returns
returns c =
    let at-loop = c.before in
    read_done _ _ _ _ _ at-loop.loop-i.i _ _ _ at-loop.byte_field-count.ensures (rw at-loop.from.ensures at at-loop.min-n.ensures)
    (omega arith) (λ h. omega arith) at-loop.loop-i.invariant
