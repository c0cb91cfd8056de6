-- The timed automaton (paper 01, "The sheet file", Body 2 and Body 3): its clocks (paper: watches), its locations (paper: stages) with
-- their invariants (paper: standing limits), and its transitions (paper: moves). Each body is read from where the last ended up to its
-- own end; bytes left over there are wrong at the first of them (`finished`).
use Rattle.std.specs.Prelude.{ℕ, ◌^◌, List, [], Bool, cond, set, replicate, ltb}
use Rattle.cursor.specs.declared.Cursor.{Cursor}
use Rattle.cursor.specs.Cursor.{judged, byte_field, below_field, finished, iterate}
use Rattle.guards.specs.Guards.{blank_guards, guards_at}
use Rattle.automaton.specs.declared.Location.{Location}
use Rattle.automaton.specs.declared.Transition.{Transition}
use Rattle.automaton.specs.declared.locations.LocationsAt.{LocationsAt}
use Rattle.automaton.specs.declared.transitions.TransitionAt.{TransitionAt}
use Rattle.automaton.specs.declared.transitions.TransitionsAt.{TransitionsAt}

-- Body 2: clocks 1 to 4; locations 1 to 16; per location a count of guards 0 to 6, then the guards

-- the location that is read past a list's end
abbrev pub no_location : Location
no_location = record { count = 0; guards = [] }

-- a location past the count: zeros
unfoldable pub blank_location : Location
blank_location = record { count = 0; guards = blank_guards }

-- before any location is read
unfoldable pub blank_locations : List Location
blank_locations = replicate 16 blank_location

-- location i, where the count has it
unfoldable pub location_step : List ℕ → ℕ → ℕ → ℕ → ℕ → LocationsAt → LocationsAt
location_step s end most parameters i all =
    let read = guards_at s end most parameters all.clocks all.cursor in
    cond (ltb i all.count)
    (record {
      cursor = read.cursor;
      clocks = all.clocks;
      count = all.count;
      list = set all.list i (record { count = read.count; guards = read.guards });
    })
    all

-- its fields: the two counts, then the locations
unfoldable pub locations_read : List ℕ → ℕ → ℕ → ℕ → Cursor → LocationsAt
locations_read s end most parameters cursor =
    let clocks = byte_field s end 1 4 cursor in
    let count = byte_field s end 1 16 clocks in
    iterate (location_step s end most parameters)
    (record { cursor = count; clocks = clocks.byte; count = count.byte; list = blank_locations })
    16

-- the body: its fields, then its end
unfoldable pub locations_at : List ℕ → ℕ → ℕ → ℕ → Cursor → LocationsAt
locations_at s end most parameters cursor =
    let all = locations_read s end most parameters cursor in
    record { cursor = finished end all.cursor; clocks = all.clocks; count = all.count; list = all.list }

-- Body 3: count of transitions, 0 to 32; per transition: from, to, resets, count of guards 0 to 6, guards

-- bit i - 1 for clock i of the sheet, other bits 0
unfoldable pub resets_right : ℕ → ℕ → Bool
resets_right clocks resets = ltb resets (2 ^ clocks)

-- the resets of a transition
unfoldable pub resets_field : List ℕ → ℕ → ℕ → Cursor → Cursor
resets_field s end clocks cursor = judged cursor (byte_field s end 0 255 cursor) (resets_right clocks (byte_field s end 0 255 cursor).byte)

-- a transition: from and to, both below the count of locations, resets, then its guards
unfoldable pub transition_at : List ℕ → ℕ → ℕ → ℕ → ℕ → ℕ → Cursor → TransitionAt
transition_at s end most parameters clocks locations cursor =
    let from = below_field s end locations cursor in
    let to = below_field s end locations from in
    let resets = resets_field s end clocks to in
    let read = guards_at s end most parameters clocks resets in
    record {
      cursor = read.cursor;
      transition =
          record { from = from.byte; to = to.byte; resets = resets.byte; count = read.count; guards = read.guards };
    }

-- the transition that is read past a list's end
abbrev pub no_transition : Transition
no_transition = record { from = 0; to = 0; resets = 0; count = 0; guards = [] }

-- a transition past the count: zeros
unfoldable pub blank_transition : Transition
blank_transition = record { from = 0; to = 0; resets = 0; count = 0; guards = blank_guards }

-- before any transition is read
unfoldable pub blank_transitions : List Transition
blank_transitions = replicate 32 blank_transition

-- transition i, where the count has it
unfoldable pub transition_step : List ℕ → ℕ → ℕ → ℕ → ℕ → ℕ → ℕ → TransitionsAt → TransitionsAt
transition_step s end most parameters clocks locations i all =
    let read = transition_at s end most parameters clocks locations all.cursor in
    cond (ltb i all.count)
    (record { cursor = read.cursor; count = all.count; list = set all.list i read.transition })
    all

-- its fields: the count, then the transitions
unfoldable pub transitions_read : List ℕ → ℕ → ℕ → ℕ → ℕ → ℕ → Cursor → TransitionsAt
transitions_read s end most parameters clocks locations cursor =
    let count = byte_field s end 0 32 cursor in
    iterate (transition_step s end most parameters clocks locations)
    (record { cursor = count; count = count.byte; list = blank_transitions })
    32

-- the body: its fields, then its end
unfoldable pub transitions_at : List ℕ → ℕ → ℕ → ℕ → ℕ → ℕ → Cursor → TransitionsAt
transitions_at s end most parameters clocks locations cursor =
    let all = transitions_read s end most parameters clocks locations cursor in
    record { cursor = finished end all.cursor; count = all.count; list = all.list }
