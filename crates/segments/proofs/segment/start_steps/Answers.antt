-- The invariants alone.
use mathlib.Core.Path.{◌≡◌}
use borrow.Author.Rules.{rules}
use lib.ListN.{length}
use Rattle.segments.specs.Lists.{start_lists}
use Rattle.segments.proofs.segment.start_steps.Goals as goal

pub returns : goal.returns
returns c =
    let start = c.before.before in
    let six : length start.args.here.guards ≡ 6 = search rules in
    start_lists start.args.here six _ c.with_guards.ensures
