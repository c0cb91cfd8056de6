-- Bodies 2 and 3 and the places of their entries: the counts are the same and reading stands in the same place; and where it has not
-- stopped, and the body ends before byte 65,536, each location and transition is what is read again at its place.
use Rattle.std.specs.Prelude.{ℕ, ◌≤◌, ◌<◌, ◌≡◌, List, true, ltb, get_or}
use Rattle.std.proofs.Math.Path.{refl, sym, ap}
use Rattle.std.proofs.Math.Bool.{cond}
use Rattle.std.proofs.Common.{arith, lt-ltb}
use Rattle.std.proofs.Math.ListN.{set}
use Rattle.expr.specs.Records.{PARAMETERS}
use Rattle.cursor.specs.declared.Cursor.{Cursor}
use Rattle.cursor.specs.Cursor.{advanced, byte_field, finished, iterate}
use Rattle.cursor_laws.specs.Laws.{finished_ok, byte_field_right, byte_field_below, below_field_right, below_field_below}
use Rattle.guards.specs.Guards.{guards_at}
use Rattle.guards.proofs.GuardLaws.{guards_at_counted, guards_at_from}
use Rattle.automaton.specs.declared.Location.{Location}
use Rattle.automaton.specs.declared.Transition.{Transition}
use Rattle.automaton.specs.declared.locations.LocationsAt.{LocationsAt}
use Rattle.automaton.specs.declared.transitions.TransitionAt.{TransitionAt}
use Rattle.automaton.specs.declared.transitions.TransitionsAt.{TransitionsAt}
use Rattle.automaton.specs.Automaton.{no_location, blank_location, blank_locations, location_step, locations_read, locations_at}
use Rattle.automaton.specs.Automaton.{no_transition, blank_transition, blank_transitions, transition_at, transition_step, transitions_read}
use Rattle.automaton.specs.Automaton.{transitions_at}
use Rattle.automaton.specs.AutomatonLaws.{transition_at_started, transition_at_from}
use Rattle.places.specs.declared.LocationPlaces.{LocationPlaces}
use Rattle.places.specs.declared.TransitionPlaces.{TransitionPlaces}
use Rattle.index.specs.Listed.{listed}
use Rattle.index.specs.SheetIn.{location_of}
use Rattle.places.specs.Places.{short_of, location_places, transition_places}
use Rattle.places.specs.PlacedLaws.{Reads, kept_all, cursors, lists}

-- a place before the end of a body is kept as it is
short_same : (at end : ℕ) → at < end → end ≤ 65536 → short_of at ≡ at
unfolding short_of
short_same at end h l =
    let t = lt-ltb at 65536 (omega arith) in
    rw t refl

module _ (s : List ℕ) (end most parameters : ℕ) where
  -- ---- body 2
  module _ (cursor : Cursor) where
    abbrev clocks : ℕ
    clocks = (byte_field s end 1 4 cursor).byte

    abbrev counted : Cursor
    counted = byte_field s end 1 16 (byte_field s end 1 4 cursor)

    abbrev begun : LocationsAt
    begun = record { cursor = counted; clocks = clocks; count = counted.byte; list = blank_locations }

    abbrev KeepsLocations : LocationsAt → Type 0
    KeepsLocations x = (x.count ≡ counted.byte) × (x.clocks ≡ clocks)

    abbrev more_locations : ℕ → LocationsAt → LocationsAt
    more_locations i x =
        let read = guards_at s end most parameters x.clocks x.cursor in
        record { cursor = read.cursor; clocks = x.clocks; count = x.count; list = set x.list i (location_of read) }

    location_reads :
        Reads counted.byte KeepsLocations (λ x. x.cursor) (λ x. x.list)
        (λ c. (guards_at s end most parameters clocks c).cursor) (λ c. location_of (guards_at s end most parameters clocks c))
        (location_step s end most parameters) more_locations
    unfolding location_step
    location_reads =
        record {
          tests = λ i x k. ap (λ (n : ℕ). cond (ltb i n) (more_locations i x) x) k.0;
          keeps = λ i x k. k;
          moves = λ i x k. ap (λ (n : ℕ). (guards_at s end most parameters n x.cursor).cursor) k.1;
          stores = λ i x k. ap (λ (n : ℕ). set x.list i (location_of (guards_at s end most parameters n x.cursor))) k.1;
        }

    pub location_cursor : (location_places s end most parameters cursor).cursor ≡ (locations_at s end most parameters cursor).cursor
    unfolding location_places locations_at locations_read
    location_cursor = ap (finished end) (sym (cursors 16 location_reads begun (refl, refl)))

    pub location_clocks : (location_places s end most parameters cursor).clocks ≡ (locations_at s end most parameters cursor).clocks
    unfolding location_places locations_at locations_read
    location_clocks = sym (kept_all 16 location_reads begun (refl, refl)).1

    pub location_count : (location_places s end most parameters cursor).count ≡ (locations_at s end most parameters cursor).count
    unfolding location_places locations_at locations_read
    location_count = sym (kept_all 16 location_reads begun (refl, refl)).0

    -- location k, read again at its place
    abbrev pub location_again : LocationPlaces → ℕ → Location
    location_again p k =
        cond (ltb k p.count) (location_of (guards_at s end most parameters p.clocks (advanced (get_or p.list k 0) 0))) blank_location

    location_fresh :
        parameters ≤ PARAMETERS → end ≤ 65536 → (c : Cursor) → (guards_at s end most parameters clocks c).cursor.ok ≡ true →
        (c.ok ≡ true) ×
        (location_of (guards_at s end most parameters clocks c)
        ≡ location_of (guards_at s end most parameters clocks (advanced (short_of c.at) 0)))
    location_fresh few small c h =
        let g = (guards_at_counted s end most parameters clocks c (λ o. few) h).0 in
        let o = (byte_field_right s end 0 6 c g).0 in
        let e = short_same c.at end (byte_field_below s end 0 6 c g) small in
        (o, rw e (ap location_of (guards_at_from s end most parameters clocks c o)))

    pub location_lists :
        parameters ≤ PARAMETERS → end ≤ 65536 → (locations_at s end most parameters cursor).cursor.ok ≡ true →
        (locations_at s end most parameters cursor).list ≡ listed (location_again (location_places s end most parameters cursor)) 16
    unfolding location_places locations_at locations_read blank_locations
    location_lists few small h =
        lists 16 location_reads begun (refl, refl) no_location blank_location refl (location_fresh few small)
        (finished_ok s end (iterate (location_step s end most parameters) begun 16).cursor h)

  -- ---- body 3
  module _ (clocks locations : ℕ) (cursor : Cursor) where
    abbrev numbered : Cursor
    numbered = byte_field s end 0 32 cursor

    abbrev started : TransitionsAt
    started = record { cursor = numbered; count = numbered.byte; list = blank_transitions }

    abbrev KeepsTransitions : TransitionsAt → Type 0
    KeepsTransitions x = x.count ≡ numbered.byte

    abbrev read_at : Cursor → TransitionAt
    read_at c = transition_at s end most parameters clocks locations c

    abbrev more_transitions : ℕ → TransitionsAt → TransitionsAt
    more_transitions i x =
        record { cursor = (read_at x.cursor).cursor; count = x.count; list = set x.list i (read_at x.cursor).transition }

    transition_reads :
        Reads numbered.byte KeepsTransitions (λ x. x.cursor) (λ x. x.list)
        (λ c. (transition_at s end most parameters clocks locations c).cursor)
        (λ c. (transition_at s end most parameters clocks locations c).transition)
        (transition_step s end most parameters clocks locations) more_transitions
    unfolding transition_step
    transition_reads =
        record {
          tests = λ i x k. ap (λ (n : ℕ). cond (ltb i n) (more_transitions i x) x) k;
          keeps = λ i x k. k;
          moves = λ i x k. refl;
          stores = λ i x k. refl;
        }

    pub transition_cursor :
        (transition_places s end most parameters clocks locations cursor).cursor
        ≡ (transitions_at s end most parameters clocks locations cursor).cursor
    unfolding transition_places transitions_at transitions_read
    transition_cursor = ap (finished end) (sym (cursors 32 transition_reads started refl))

    pub transition_count :
        (transition_places s end most parameters clocks locations cursor).count
        ≡ (transitions_at s end most parameters clocks locations cursor).count
    unfolding transition_places transitions_at transitions_read
    transition_count = sym (kept_all 32 transition_reads started refl)

    -- transition k, read again at its place
    abbrev pub transition_again : TransitionPlaces → ℕ → Transition
    transition_again p k =
        cond (ltb k p.count)
        (transition_at s end most parameters clocks locations (advanced (get_or p.list k 0) 0)).transition
        blank_transition

    transition_fresh :
        parameters ≤ PARAMETERS → end ≤ 65536 → (c : Cursor) → (read_at c).cursor.ok ≡ true →
        (c.ok ≡ true) × ((read_at c).transition ≡ (read_at (advanced (short_of c.at) 0)).transition)
    transition_fresh few small c h =
        let g = (transition_at_started s end most parameters clocks locations c (λ o. few) h).0 in
        let o = (below_field_right s end locations c g).0 in
        let e = short_same c.at end (below_field_below s end locations c g) small in
        (o, rw e (ap (λ (t : TransitionAt). t.transition) (transition_at_from s end most parameters clocks locations c o)))

    pub transition_lists :
        parameters ≤ PARAMETERS → end ≤ 65536 → (transitions_at s end most parameters clocks locations cursor).cursor.ok ≡ true →
        (transitions_at s end most parameters clocks locations cursor).list
        ≡ listed (transition_again (transition_places s end most parameters clocks locations cursor)) 32
    unfolding transition_places transitions_at transitions_read blank_transitions
    transition_lists few small h =
        lists 32 transition_reads started refl no_transition blank_transition refl (transition_fresh few small)
        (finished_ok s end (iterate (transition_step s end most parameters clocks locations) started 32).cursor h)
