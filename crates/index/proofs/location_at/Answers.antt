-- `index::location_at` meets its contract: what it reads is what the index's sheet has there. Assumes nothing.
use native.Mathlib.Omega.{arith}
use Rattle.guards.specs.Guards.{blank_guard, blank_guards}
use Rattle.automaton.specs.Automaton.{blank_location}
use Rattle.index.specs.SheetLaws.{place_below}
use Rattle.index.proofs.Steps.{location_here, location_past}
use borrow.Author.Rules.{rules}
use Rattle.index.proofs.location_at.Goals as goal

pub bounds-ix-k : goal.bounds-ix-k
bounds-ix-k c =
    let h = place_below 16 c.args.l _ c.place-k.ensures (omega arith) in
    search rules

pub returns-then-k-ix : goal.returns-then-k-ix
returns-then-k-ix c =
    let read = c.before in
    let most = read.before.before.before in
    location_here _ _ _ _ _ most.place-k.ensures most.if-k-ix.true
    (rw (read.standing-from.ensures, most.most_parameters-most.ensures) at read.guards_at-read.ensures)

pub returns-else-k-ix : goal.returns-else-k-ix
unfolding blank_location blank_guards blank_guard
returns-else-k-ix c = location_past _ _ _ _ c.place-k.ensures c.if-k-ix.false
