-- The search's first.
use Rattle.std.proofs.Common.{◌∙◌}
use Rattle.holding.proofs.First.{first_held_is}
use Rattle.holding.proofs.first_held.Goals as goal

pub returns : goal.returns
returns c =
    let a = c.args in
    c.unwrap_or.ensures ∙ first_held_is a.b _ _ _ c.flat_of-list.ensures.count_value c.first.ensures
