-- `transitions::transitions_read` meets its contract. The invariant: after i steps the transitions are what `iterate` gives. Assumes
-- nothing.
use mathlib.Core.Path.{◌≡◌, refl}
use native.Mathlib.Omega.{arith}
use native.Mathlib.Numerals.{add-one}
use Rattle.cursor.specs.Cursor.{iterate}
use Rattle.automaton.specs.Automaton.{transitions_read, blank_transitions, blank_transition}
use Rattle.guards.specs.Guards.{blank_guards, blank_guard}
use Rattle.automaton.proofs.transitions.transitions_read.Goals as goal

pub loop-i-init : goal.loop-i-init
unfolding iterate
loop-i-init c = refl

pub transition_step-all-requires : goal.transition_step-all-requires
unfolding iterate
transition_step-all-requires c = omega arith

pub loop-i-preserved : goal.loop-i-preserved
unfolding iterate
loop-i-preserved c = rw add-one (simp (c.transition_step-all.ensures, c.loop-i.invariant))

pub returns : goal.returns
unfolding transitions_read blank_transitions blank_transition blank_guards blank_guard
returns c =
    let h : c.loop-i.i ≡ 32 = omega arith in
    simp (c.loop-i.invariant, h, c.byte_field-count.ensures)
