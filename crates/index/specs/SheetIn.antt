-- The sheet of an index: each location and transition that the counts have, decoded where it stands in the file, and a blank one past
-- the counts. The bytes mean there what they mean to a reader that comes to them (guards/Guards, automaton/Automaton).
use Rattle.std.specs.Prelude.{ℕ, List, cond, ltb, get_or}
use Rattle.cursor.specs.Cursor.{advanced}
use Rattle.contents.specs.Contents.{most_parameters}
use Rattle.guards.specs.declared.GuardsAt.{GuardsAt}
use Rattle.guards.specs.Guards.{guards_at}
use Rattle.automaton.specs.declared.Location.{Location}
use Rattle.automaton.specs.declared.Transition.{Transition}
use Rattle.automaton.specs.Automaton.{blank_location, blank_transition, transition_at}
use Rattle.sheet.specs.declared.Sheet.{Sheet}
use Rattle.index.specs.declared.Index.{Index}
use Rattle.index.specs.Listed.{listed}

-- guards that were read, as a location
abbrev pub location_of : GuardsAt → Location
location_of read = record { count = read.count; guards = read.guards }

-- location l
unfoldable pub location_in : List ℕ → Index → ℕ → Location
location_in s ix l =
    cond (ltb l ix.locations)
    (location_of
    (guards_at s ix.second (most_parameters ix.version) ix.parameters ix.clocks (advanced (get_or ix.location l 0) 0)))
    blank_location

-- transition n
unfoldable pub transition_in : List ℕ → Index → ℕ → Transition
transition_in s ix n =
    cond (ltb n ix.transitions)
    (transition_at s ix.third (most_parameters ix.version) ix.parameters ix.clocks ix.locations
    (advanced (get_or ix.transition n 0) 0)
    ).transition
    blank_transition

-- the sheet of an index into a file
unfoldable pub sheet_in : List ℕ → Index → Sheet
sheet_in s ix =
    record {
      version = ix.version;
      parameters = ix.parameters;
      ranges = ix.ranges;
      clocks = ix.clocks;
      locations = ix.locations;
      location = listed (location_in s ix) 16;
      transitions = ix.transitions;
      transition = listed (transition_in s ix) 32;
      moves = ix.moves;
      route = ix.route;
    }
