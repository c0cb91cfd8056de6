-- `location_places` meets its contract. The invariant: after i entries the places are what `iterate` gives. Assumes nothing.
use mathlib.Core.Path.{refl, ap}
use native.Mathlib.Omega.{arith}
use borrow.Author.Rules.{rules}
use Rattle.cursor.specs.Cursor.{iterate}
use Rattle.guards.specs.declared.GuardsAt.{GuardsAt}
use Rattle.places.proofs.Steps.{place_more, location_places_done}
use Rattle.places.proofs.location_places.Goals as goal

pub loop-i-init : goal.loop-i-init
unfolding iterate
loop-i-init c = refl

pub bounds-list-i : goal.bounds-list-i
bounds-list-i c =
    let few = (rw c.from.ensures at c.min-n.ensures) in
    search rules

pub loop-i-preserved : goal.loop-i-preserved
loop-i-preserved c =
    let turn = c.before.before in
    let after = ap (λ (r : GuardsAt). r.cursor) c.guards_at-read.ensures in
    place_more _ 16 _ _ _ _ _ turn.loop-i.invariant turn.short.ensures after

pub returns : goal.returns
returns c =
    let all = c.before.before in
    let count = all.before.before.before in
    location_places_done _ _ _ _ _ _ _ _ _ _ _ count.byte_field-clocks.ensures count.byte_field-count.ensures
    (rw all.from.ensures at all.min-n.ensures) (omega arith) (λ h. omega arith) all.loop-i.invariant c.finished.ensures
