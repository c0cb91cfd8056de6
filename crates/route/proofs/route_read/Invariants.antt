use Rattle.route.proofs.RouteSteps.{Read}
use Rattle.route.proofs.route_read.Given as goal

-- `route::route_read` meets its contract. The invariant: after i bytes the route is what `iterate` gives. Assumes nothing.
abbrev pub invariant-loop-i : goal.invariant-loop-i
invariant-loop-i l = Read l.file l.end l.transitions l.count l.i l.here l.list
