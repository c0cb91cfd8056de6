-- What holds of every sheet that `read` of crate reading gives (paper 01, "The sheet file"). Definitions only; that it holds is a
-- theorem of reading/proofs/Accepted.
use Rattle.std.specs.Prelude.{ℕ, ◌≤◌, ◌<◌, ◌≡◌, ◌⊎◌, get_or}
use Rattle.cursor_laws.specs.Right.{Filled}
use Rattle.contents.specs.Contents.{most_parameters}
use Rattle.expr.specs.Records.{range_list}
use Rattle.parameters.specs.Right.{RangesRight}
use Rattle.valuations.specs.Valuations.{widths}
use Rattle.automaton.specs.Automaton.{no_location, blank_location, no_transition, blank_transition}
use Rattle.automaton.specs.Right.{LocationRight, TransitionRight}
use Rattle.route.specs.Route.{arrived_at}
use Rattle.sheet.specs.declared.Sheet.{Sheet}

-- how many valuations (paper: settings) the ranges of a sheet have at most
abbrev pub MOST_VALUATIONS : ℕ
MOST_VALUATIONS = 262144

-- an accepted sheet: its version, counts, ranges, locations, transitions and route, and the route links
pub record WellFormed (sheet : Sheet) : Type 0 where
  pub version : (sheet.version ≡ 1) ⊎ (sheet.version ≡ 2)
  pub parameters : sheet.parameters ≤ most_parameters sheet.version
  pub ranges : RangesRight sheet.parameters sheet.ranges.list
  pub few_valuations : widths (range_list sheet.ranges) ≤ MOST_VALUATIONS
  pub some_clock : 1 ≤ sheet.clocks
  pub clocks : sheet.clocks ≤ 4
  pub some_location : 1 ≤ sheet.locations
  pub location :
      Filled 16 sheet.locations no_location blank_location
      (LocationRight sheet.parameters sheet.clocks)
      sheet.location
  pub transition :
      Filled 32 sheet.transitions no_transition blank_transition
      (TransitionRight sheet.parameters sheet.clocks sheet.locations)
      sheet.transition
  pub route : Filled 32 sheet.moves 0 0 (λ number. number < sheet.transitions) sheet.route
  pub links :
      (k : ℕ) → k < sheet.moves →
      (get_or sheet.transition (get_or sheet.route k 0) no_transition).from ≡ arrived_at sheet.transition sheet.route k
