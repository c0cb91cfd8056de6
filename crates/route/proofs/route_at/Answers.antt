-- `route::route_at` meets its contract: the fields, then the body's end. Assumes nothing.
use Rattle.route.specs.Route.{route_at}
use Rattle.route.proofs.route_at.Goals as goal

pub returns : goal.returns
unfolding route_at
returns c = simp (c.finished-all.ensures, c.route_read-all.ensures)
