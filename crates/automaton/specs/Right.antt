-- What holds of every location and transition that was read (paper 01, "The sheet file", Body 2 and Body 3). Definitions only.
use Rattle.std.specs.Prelude.{ℕ, ◌<◌, ◌^◌}
use Rattle.guards.specs.Right.{GuardsRight}
use Rattle.automaton.specs.declared.Location.{Location}
use Rattle.automaton.specs.declared.Transition.{Transition}

-- a location (paper: stage): its invariants (paper: standing limits)
abbrev pub LocationRight : ℕ → ℕ → Location → Type 0
LocationRight parameters clocks location = GuardsRight parameters clocks location.count location.guards

-- a transition (paper: move) between two locations of the sheet that resets clocks of the sheet
pub record TransitionRight (parameters clocks locations : ℕ) (transition : Transition) : Type 0 where
  pub from : transition.from < locations
  pub to : transition.to < locations
  pub resets : transition.resets < 2 ^ clocks
  pub guards : GuardsRight parameters clocks transition.count transition.guards
