use mathlib.Core.Path.{◌≡◌}
use Rattle.std.proofs.Common.{Ok}
use Rattle.cursor.specs.Cursor.{iterate}
use Rattle.route.specs.Route.{link_step}
use Rattle.index.specs.SheetIn.{sheet_in}
use Rattle.links.proofs.links_of.Given as goal

-- `links_of` meets its contract. The invariant: after i moves the route has arrived where `iterate` says. Assumes nothing.
abbrev pub invariant-loop-i : goal.invariant-loop-i
invariant-loop-i l = Ok l.location ≡ iterate (link_step (sheet_in l.file l.ix).transition l.ix.route l.ix.moves) (Ok 0) l.i
