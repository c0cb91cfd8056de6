use mathlib.Core.Path.{◌≡◌}
use Rattle.std.proofs.Common.{Ok}
use Rattle.cursor.specs.Cursor.{iterate}
use Rattle.route.specs.Route.{link_step}
use Rattle.route.proofs.links_of.Given as goal

-- `route::links_of` meets its contract. The invariant: after i steps the route has arrived where `iterate` says. Assumes nothing.
abbrev pub invariant-loop-i : goal.invariant-loop-i
invariant-loop-i l = Ok l.location ≡ iterate (link_step l.transition l.route l.moves) (Ok 0) l.i
