-- Bodies 2 and 3: what was read of each, if reading has not stopped, is right. From the definitions of `Automaton`.
use Rattle.std.specs.Prelude.{ℕ, ◌≤◌, ◌<◌, ◌^◌, ◌≡◌, List, ltb}
use Rattle.std.proofs.Math.Path.{refl, subst}
use Rattle.std.proofs.Common.{ap, ltb-true}
use Rattle.std.proofs.Math.Bool.{true, cond}
use Rattle.std.proofs.Math.ListN.{set}
use Rattle.cursor.specs.declared.Cursor.{Cursor}
use Rattle.cursor.specs.Cursor.{advanced, byte_field, below_field}
use Rattle.cursor_laws.specs.Laws.{judged_right, finished_ok, byte_field_right, below_field_right, below_field_from}
use Rattle.cursor_laws.specs.FilledLaws.{step, filled}
use Rattle.cursor_laws.specs.Right.{Filled}
use Rattle.expr.specs.Records.{PARAMETERS}
use Rattle.guards.specs.Guards.{guards_at}
use Rattle.guards.proofs.GuardLaws.{guards_at_right}
use Rattle.automaton.specs.declared.Location.{Location}
use Rattle.automaton.specs.declared.Transition.{Transition}
use Rattle.automaton.specs.declared.locations.LocationsAt.{LocationsAt}
use Rattle.automaton.specs.declared.transitions.TransitionsAt.{TransitionsAt}
use Rattle.automaton.specs.Automaton.{no_location, blank_location, blank_locations, location_step, locations_read, locations_at}
use Rattle.automaton.specs.Automaton.{resets_right, resets_field, transition_at, no_transition, blank_transition, blank_transitions}
use Rattle.automaton.specs.Automaton.{transition_step, transitions_read, transitions_at}
use Rattle.automaton.specs.Right.{LocationRight, TransitionRight}

module _ (s : List ℕ) (end : ℕ) where
  -- body 2

  module _ (most parameters : ℕ) where
    locations_read_right :
        (cursor : Cursor) → (cursor.ok ≡ true → parameters ≤ PARAMETERS) →
        (locations_read s end most parameters cursor).cursor.ok ≡ true →
        (cursor.ok ≡ true) ×
        (((1 ≤ (locations_read s end most parameters cursor).clocks) × ((locations_read s end most parameters cursor).clocks ≤ 4)) ×
        ((1 ≤ (locations_read s end most parameters cursor).count) ×
        Filled 16 (locations_read s end most parameters cursor).count no_location blank_location
        (LocationRight parameters (locations_read s end most parameters cursor).clocks)
        (locations_read s end most parameters cursor).list))
    unfolding locations_read location_step blank_locations
    locations_read_right cursor few h =
        let clocks = byte_field s end 1 4 cursor in
        let count = byte_field s end 1 16 clocks in
        let start : LocationsAt = record { cursor = count; clocks = clocks.byte; count = count.byte; list = blank_locations } in
        let d =
        filled {A = LocationsAt} {B = Location} 16 count.byte no_location blank_location (LocationRight parameters clocks.byte)
        (λ x. x.cursor.ok) (λ x. x.list)
        (λ x. ((x.count ≡ count.byte) × (x.clocks ≡ clocks.byte)) × (x.cursor.ok ≡ true → parameters ≤ PARAMETERS))
        (location_step s end most parameters) start
        ((refl, refl), λ o. few (byte_field_right s end 1 4 cursor (byte_field_right s end 1 16 clocks o).0).0) refl
        (λ o. (byte_field_right s end 1 16 clocks o).1.1)
        (λ i x hi k.
        let read = guards_at s end most parameters x.clocks x.cursor in
        let right = guards_at_right s end most parameters x.clocks x.cursor k.1 in
        let entry : Location = record { count = read.count; guards = read.guards } in
        let next : LocationsAt = record { cursor = read.cursor; clocks = x.clocks; count = x.count; list = set x.list i entry } in
        step 16 count.byte no_location blank_location (LocationRight parameters clocks.byte) (λ x. x.cursor.ok) (λ x. x.list)
        (λ x. ((x.count ≡ count.byte) × (x.clocks ≡ clocks.byte)) × (x.cursor.ok ≡ true → parameters ≤ PARAMETERS))
        (location_step s end most parameters) i x next entry
        (ap (λ (n : ℕ). cond (ltb i n) next x) k.0.0) (k.0, λ o. k.1 (right o).0) k refl
        (λ o. ((right o).0, subst (λ (n : ℕ). LocationRight parameters n entry) k.0.1 (right o).1)))
        h in
        let hn = byte_field_right s end 1 16 clocks d.0 in
        let hc = byte_field_right s end 1 4 cursor hn.0 in
        (hc.0, rw (d.1.0.0.0, d.1.0.0.1) (hc.1, (hn.1.0, d.1.1)))

    pub locations_at_right :
        (cursor : Cursor) → (cursor.ok ≡ true → parameters ≤ PARAMETERS) →
        (locations_at s end most parameters cursor).cursor.ok ≡ true →
        (cursor.ok ≡ true) ×
        (((1 ≤ (locations_at s end most parameters cursor).clocks) × ((locations_at s end most parameters cursor).clocks ≤ 4)) ×
        ((1 ≤ (locations_at s end most parameters cursor).count) ×
        Filled 16 (locations_at s end most parameters cursor).count no_location blank_location
        (LocationRight parameters (locations_at s end most parameters cursor).clocks)
        (locations_at s end most parameters cursor).list))
    unfolding locations_at
    locations_at_right cursor few h =
        locations_read_right cursor few (finished_ok s end (locations_read s end most parameters cursor).cursor h)

  -- body 3

  resets_field_right :
      (clocks : ℕ) (cursor : Cursor) → (resets_field s end clocks cursor).ok ≡ true →
      (cursor.ok ≡ true) × ((resets_field s end clocks cursor).byte < 2 ^ clocks)
  unfolding resets_field resets_right
  resets_field_right clocks cursor h =
      let t = byte_field s end 0 255 cursor in
      let j = judged_right cursor t (ltb t.byte (2 ^ clocks)) h in
      ((byte_field_right s end 0 255 cursor j.0).0, rw j.1.1 (ltb-true t.byte (2 ^ clocks) j.1.0))

  module _ (most parameters clocks locations : ℕ) where
    -- a transition depends on where it stands alone
    pub transition_at_from :
        (cursor : Cursor) → cursor.ok ≡ true →
        transition_at s end most parameters clocks locations cursor
        ≡ transition_at s end most parameters clocks locations (advanced cursor.at 0)
    unfolding transition_at
    transition_at_from cursor o = rw (below_field_from s end locations cursor o) refl

    -- a transition, after where it starts
    pub transition_at_started :
        (cursor : Cursor) → (cursor.ok ≡ true → parameters ≤ PARAMETERS) →
        (transition_at s end most parameters clocks locations cursor).cursor.ok ≡ true →
        ((below_field s end locations cursor).ok ≡ true) ×
        TransitionRight parameters clocks locations (transition_at s end most parameters clocks locations cursor).transition
    unfolding transition_at
    transition_at_started cursor few h =
        let from = below_field s end locations cursor in
        let to = below_field s end locations from in
        let resets = resets_field s end clocks to in
        let before : resets.ok ≡ true → cursor.ok ≡ true =
        λ o.
        let t = below_field_right s end locations from (resets_field_right clocks to o).0 in
        (below_field_right s end locations cursor t.0).0 in
        let hg = guards_at_right s end most parameters clocks resets (λ o. few (before o)) h in
        let hr = resets_field_right clocks to hg.0 in
        let ht = below_field_right s end locations from hr.0 in
        let hf = below_field_right s end locations cursor ht.0 in
        (ht.0, record { from = hf.1; to = ht.1; resets = hr.1; guards = hg.1 })

    -- the same, after where it stands
    transition_at_right :
        (cursor : Cursor) → (cursor.ok ≡ true → parameters ≤ PARAMETERS) →
        (transition_at s end most parameters clocks locations cursor).cursor.ok ≡ true →
        (cursor.ok ≡ true) ×
        TransitionRight parameters clocks locations (transition_at s end most parameters clocks locations cursor).transition
    transition_at_right cursor few h =
        let g = transition_at_started cursor few h in
        ((below_field_right s end locations cursor g.0).0, g.1)

    transitions_read_right :
        (cursor : Cursor) → (cursor.ok ≡ true → parameters ≤ PARAMETERS) →
        (transitions_read s end most parameters clocks locations cursor).cursor.ok ≡ true →
        (cursor.ok ≡ true) ×
        Filled 32 (transitions_read s end most parameters clocks locations cursor).count no_transition blank_transition
        (TransitionRight parameters clocks locations)
        (transitions_read s end most parameters clocks locations cursor).list
    unfolding transitions_read transition_step blank_transitions
    transitions_read_right cursor few h =
        let count = byte_field s end 0 32 cursor in
        let start : TransitionsAt = record { cursor = count; count = count.byte; list = blank_transitions } in
        let d =
        filled {A = TransitionsAt} {B = Transition} 32 count.byte no_transition blank_transition
        (TransitionRight parameters clocks locations) (λ x. x.cursor.ok) (λ x. x.list)
        (λ x. (x.count ≡ count.byte) × (x.cursor.ok ≡ true → parameters ≤ PARAMETERS))
        (transition_step s end most parameters clocks locations) start
        (refl, λ o. few (byte_field_right s end 0 32 cursor o).0) refl (λ o. (byte_field_right s end 0 32 cursor o).1.1)
        (λ i x hi k.
        let read = transition_at s end most parameters clocks locations x.cursor in
        let right = transition_at_right x.cursor k.1 in
        let next : TransitionsAt = record { cursor = read.cursor; count = x.count; list = set x.list i read.transition } in
        step 32 count.byte no_transition blank_transition (TransitionRight parameters clocks locations) (λ x. x.cursor.ok)
        (λ x. x.list) (λ x. (x.count ≡ count.byte) × (x.cursor.ok ≡ true → parameters ≤ PARAMETERS))
        (transition_step s end most parameters clocks locations) i x next read.transition
        (ap (λ (n : ℕ). cond (ltb i n) next x) k.0) (k.0, λ o. k.1 (right o).0) k refl right)
        h in
        ((byte_field_right s end 0 32 cursor d.0).0, rw d.1.0.0 d.1.1)

    pub transitions_at_right :
        (cursor : Cursor) → (cursor.ok ≡ true → parameters ≤ PARAMETERS) →
        (transitions_at s end most parameters clocks locations cursor).cursor.ok ≡ true →
        (cursor.ok ≡ true) ×
        Filled 32 (transitions_at s end most parameters clocks locations cursor).count no_transition blank_transition
        (TransitionRight parameters clocks locations)
        (transitions_at s end most parameters clocks locations cursor).list
    unfolding transitions_at
    transitions_at_right cursor few h =
        transitions_read_right cursor few (finished_ok s end (transitions_read s end most parameters clocks locations cursor).cursor h)
