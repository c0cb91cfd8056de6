-- A wait, and the guards behind it.
use mathlib.Core.Path.{◌≡◌}
use borrow.Author.Rules.{rules}
use lib.ListN.{length}
use Rattle.segments.specs.Lists.{stay_lists}
use Rattle.segments.proofs.segment.stay_steps.Goals as goal

pub returns : goal.returns
returns c =
    let start = c.before.before.before in
    let six : length start.args.here.guards ≡ 6 = search rules in
    stay_lists start.args.here six _ _ c.with_step-waits.ensures c.with_guards.ensures
