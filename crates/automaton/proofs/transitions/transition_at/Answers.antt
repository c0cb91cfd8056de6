-- `transitions::transition_at` meets its contract: code and definition are one composition. Assumes nothing.
use Rattle.automaton.specs.Automaton.{transition_at}
use Rattle.automaton.proofs.transitions.transition_at.Goals as goal

pub returns : goal.returns
unfolding transition_at
returns c =
    let read = c.before.before.before in
    simp (
      read.guards_at-read.ensures,
      read.resets_field-resets.ensures,
      read.below_field-to.ensures,
      read.below_field-from.ensures,
    )
