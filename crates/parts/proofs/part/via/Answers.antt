-- The sum of the entries at the places of the phase x + 2.
use mathlib.Core.Path.{◌≡◌}
use lib.ListN.{length}
use Rattle.parts.proofs.Steps.{via_by}
use borrow.Author.Rules.{rules}
use Rattle.parts.proofs.part.via.Goals as goal

pub returns : goal.returns
returns c =
    let a = c.args in
    let long : length a.r.old ≡ 25 = search rules in
    via_by a.r long a.x _ c.places-at.ensures _ _ _ _ c.entry-first.ensures c.sum.ensures
    c.entry.ensures c.sum-2.ensures
