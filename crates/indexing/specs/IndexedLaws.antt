-- The index of a file stands for its sheet: `index_same`, what is judged of the index is what is judged of the sheet.
use Rattle.std.specs.Prelude.{ℕ, ◌-◌, ◌≤◌, ◌≡◌, refl, List, Bool, true, false, length}
use Rattle.std.proofs.Common.{sym, ap, subst}
use native.Mathlib.Omega.{arith}
use Rattle.std.specs.declared.result.Result.TheVariants.{Ok}
use Rattle.cursor.specs.declared.Cursor.{Cursor}
use Rattle.cursor.specs.Cursor.{advanced, byte_field, word_field}
use Rattle.cursor_laws.specs.Laws.{within_true, byte_field_right, word_field_right, word_field_ok}
use Rattle.contents.specs.declared.Contents.{Contents}
use Rattle.contents.specs.Contents.{sized, most_parameters, entry_field, head_of, one_of, first_of, two_of, second_of, three_of, third_of, four_of}
use Rattle.contents.specs.Contents.{contents_of}
use Rattle.expr.specs.Records.{PARAMETERS}
use Rattle.parameters.specs.declared.ParametersAt.{ParametersAt}
use Rattle.parameters.specs.Parameters.{parameters_at}
use Rattle.parameters.specs.ParameterLaws.{parameters_at_right}
use Rattle.automaton.specs.declared.locations.LocationsAt.{LocationsAt}
use Rattle.automaton.specs.declared.transitions.TransitionsAt.{TransitionsAt}
use Rattle.automaton.specs.Automaton.{locations_at, transitions_at}
use Rattle.automaton.specs.AutomatonLaws.{locations_at_right, transitions_at_right}
use Rattle.route.specs.declared.RouteAt.{RouteAt}
use Rattle.route.specs.Route.{route_at}
use Rattle.route.specs.RouteLaws.{route_at_right}
use Rattle.places.specs.declared.LocationPlaces.{LocationPlaces}
use Rattle.places.specs.declared.TransitionPlaces.{TransitionPlaces}
use Rattle.index.specs.Listed.{listed}
use Rattle.index.specs.declared.Index.{Index}
use Rattle.index.specs.SheetIn.{location_in, transition_in, sheet_in}
use Rattle.places.specs.Places.{location_places, transition_places}
use Rattle.places.specs.PlaceLaws.{location_cursor, location_clocks, location_count, location_again, location_lists}
use Rattle.places.specs.PlaceLaws.{transition_cursor, transition_count, transition_again, transition_lists}
use Rattle.reading.specs.declared.SheetAt.{SheetAt}
use Rattle.sheet.specs.WellFormed.{WellFormed}
use Rattle.reading.specs.File.{Read, bodies_of, judged_bodies, read_of}
use Rattle.indexing.specs.Indexed.{index_of, sheet_at, indexed_as}
use Rattle.reading.specs.Versions.{most_few}
use Rattle.reading.proofs.Accepted.{read_well_formed}

-- ---- the ends of the bodies
module _ (s : List ℕ) where
  entry_right :
      (kind start least : ℕ) (cursor : Cursor) → (entry_field s kind start least cursor).ok ≡ true →
      (cursor.ok ≡ true) × ((entry_field s kind start least cursor).word ≤ length s - start)
  unfolding entry_field
  entry_right kind start least cursor h =
      let kinds = byte_field s 22 kind kind cursor in
      let offset = word_field s 22 start start kinds in
      let last = word_field_right s 22 least (length s - start) offset h in
      ((byte_field_right s 22 kind kind cursor (word_field_ok s 22 start start kinds last.0)).0, last.1.1)

  -- bodies 2 and 3 end in the file
  pub ends_small :
      sized s ≡ true → (contents_of s).cursor.ok ≡ true → ((contents_of s).second ≤ 65536) × ((contents_of s).third ≤ 65536)
  unfolding sized contents_of four_of three_of two_of one_of first_of second_of third_of
  ends_small z h =
      let size = within_true 22 (length s) 4096 z in
      let few = size.0 in
      let many = size.1 in
      let four = entry_right 4 (third_of s) (length s - third_of s) (three_of s) h in
      let three = entry_right 3 (second_of s) 0 (two_of s) four.0 in
      let two = entry_right 2 (first_of s) 0 (one_of s) three.0 in
      let one = entry_right 1 22 0 (head_of s) two.0 in
      let w1 = one.1 in
      let w2 = two.1 in
      let w3 = three.1 in
      (omega arith, omega arith)

-- ---- the bodies
module _ (s : List ℕ) (contents : Contents) where
  abbrev most : ℕ
  most = most_parameters contents.version

  abbrev one : ParametersAt
  one = parameters_at s contents.first most (advanced 22 0)

  abbrev two : LocationsAt
  two = locations_at s contents.second most one.count one.cursor

  abbrev places : LocationPlaces
  places = location_places s contents.second most one.count one.cursor

  abbrev three : TransitionsAt
  three = transitions_at s contents.third most one.count two.clocks two.count two.cursor

  abbrev numbers : TransitionPlaces
  numbers = transition_places s contents.third most one.count two.clocks two.count two.cursor

  abbrev four : RouteAt
  four = route_at s (length s) three.count three.cursor

  clocks_same : places.clocks ≡ two.clocks
  clocks_same = location_clocks s contents.second most one.count one.cursor

  count_same : places.count ≡ two.count
  count_same = location_count s contents.second most one.count one.cursor

  cursor_same : places.cursor ≡ two.cursor
  cursor_same = location_cursor s contents.second most one.count one.cursor

  numbered_same : numbers.count ≡ three.count
  numbered_same = transition_count s contents.third most one.count two.clocks two.count two.cursor

  stands_same : numbers.cursor ≡ three.cursor
  stands_same = transition_cursor s contents.third most one.count two.clocks two.count two.cursor

  -- reading ends in the same place
  pub index_cursor : (index_of s contents).cursor ≡ (bodies_of s contents).cursor
  unfolding index_of bodies_of
  index_cursor = rw (clocks_same, count_same, cursor_same) (rw (numbered_same, stands_same) refl)

  module _ (small2 : contents.second ≤ 65536) (small3 : contents.third ≤ 65536) (h : (bodies_of s contents).cursor.ok ≡ true) where
    three_ok : three.cursor.ok ≡ true
    unfolding bodies_of
    three_ok = (route_at_right s (length s) three.count three.cursor h).0

    few1 : one.cursor.ok ≡ true → one.count ≤ PARAMETERS
    few1 o = (parameters_at_right s contents.first most (most_few contents.version) (advanced 22 0) o).1.1.few

    two_right : two.cursor.ok ≡ true → one.cursor.ok ≡ true
    two_right o = (locations_at_right s contents.second most one.count one.cursor few1 o).0

    two_ok : two.cursor.ok ≡ true
    two_ok =
        (transitions_at_right s contents.third most one.count two.clocks two.count two.cursor
        (λ o. few1 (two_right o)) three_ok).0

    few : one.count ≤ PARAMETERS
    few = few1 (two_right two_ok)

    location_same : two.list ≡ listed (location_again s contents.second most one.count one.cursor places) 16
    location_same = location_lists s contents.second most one.count one.cursor few small2 two_ok

    transition_same :
        three.list
        ≡ listed (transition_again s contents.third most one.count two.clocks two.count two.cursor numbers) 32
    transition_same =
        transition_lists s contents.third most one.count two.clocks two.count two.cursor few small3 three_ok

    -- and the index stands for the sheet
    pub index_sheet : sheet_in s (index_of s contents).index ≡ (bodies_of s contents).sheet
    unfolding index_of bodies_of sheet_in location_in transition_in
    index_sheet = rw (location_same, transition_same) (rw (clocks_same, count_same, cursor_same) (rw (numbered_same, stands_same) refl))

-- ---- what is judged
judged_same :
    (third : ℕ) (a b : SheetAt) (o : Bool) → b.cursor.ok ≡ o → a.cursor ≡ b.cursor → (b.cursor.ok ≡ true → a.sheet ≡ b.sheet) →
    judged_bodies third a ≡ judged_bodies third b
unfolding judged_bodies
judged_same third a b true e f g = rw (f, g e) refl
judged_same third a b false e f g = rw f (rw e refl)

pub index_same :
    (s : List ℕ) → sized s ≡ true → (contents_of s).cursor.ok ≡ true →
    judged_bodies (contents_of s).third (sheet_at s (index_of s (contents_of s)))
    ≡ judged_bodies (contents_of s).third (bodies_of s (contents_of s))
index_same s z h =
    let small = ends_small s z h in
    let bodies = bodies_of s (contents_of s) in
    judged_same (contents_of s).third (sheet_at s (index_of s (contents_of s))) bodies bodies.cursor.ok refl
    (index_cursor s (contents_of s))
    (λ o. index_sheet s (contents_of s) small.0 small.1 o)

-- the sheet of an index that `indexed` answers is well formed, by its contract
pub indexing_well_formed : (s : List ℕ) (ix : Index) → indexed_as s (Ok ix) ≡ read_of s → WellFormed (sheet_in s ix)
indexing_well_formed s ix e =
    subst WellFormed (sym (ap (λ (x : Read). x.sheet) e)) (read_well_formed s (sym (ap (λ (x : Read). x.answer.number) e)))
