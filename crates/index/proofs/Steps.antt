-- What is read where an index says is what the index's sheet has there.
use Prim.Native.Nat.{ℕ, ◌<◌, ◌≤◌}
use mathlib.Core.Path.{◌≡◌, refl, sym}
use mathlib.Core.List.{List}
use lib.ListN.{get_or}
use borrow.Author.Tests.{lt-ltb, le-ltb}
use Rattle.cursor.specs.Cursor.{advanced}
use Rattle.contents.specs.Contents.{most_parameters}
use Rattle.guards.specs.declared.GuardsAt.{GuardsAt}
use Rattle.guards.specs.Guards.{guards_at}
use Rattle.automaton.specs.declared.transitions.TransitionAt.{TransitionAt}
use Rattle.automaton.specs.Automaton.{blank_location, blank_transition, transition_at}
use Rattle.sheet.specs.Lookup.{at, location_c, transition_c}
use Rattle.index.specs.declared.Index.{Index}
use Rattle.index.specs.SheetIn.{location_of, location_in, transition_in, sheet_in}
use Rattle.index.specs.SheetLaws.{location_is, transition_is}

module _ (s : List ℕ) (ix : Index) where
  abbrev guards_from : ℕ → GuardsAt
  guards_from k = guards_at s ix.second (most_parameters ix.version) ix.parameters ix.clocks (advanced (get_or ix.location k 0) 0)

  abbrev transition_from : ℕ → TransitionAt
  transition_from k =
      transition_at s ix.third (most_parameters ix.version) ix.parameters ix.clocks ix.locations
      (advanced (get_or ix.transition k 0) 0)

  -- location l, where the count has it
  pub location_here :
      (l k : ℕ) (read : GuardsAt) → k ≡ at 16 l → k < ix.locations → read ≡ guards_from k → location_of read ≡ location_c (sheet_in s ix) l
  unfolding location_in
  location_here l k read e h r =
      let t = lt-ltb k ix.locations h in
      rw (location_is s ix l) (rw (sym e) (rw (t, r) refl))

  -- and past it
  pub location_past : (l k : ℕ) → k ≡ at 16 l → ix.locations ≤ k → blank_location ≡ location_c (sheet_in s ix) l
  unfolding location_in
  location_past l k e h =
      let t = le-ltb k ix.locations h in
      rw (location_is s ix l) (rw (sym e) (rw t refl))

  -- transition n, where the count has it
  pub transition_here :
      (n k : ℕ) (read : TransitionAt) → k ≡ at 32 n → k < ix.transitions → read ≡ transition_from k →
      read.transition ≡ transition_c (sheet_in s ix) n
  unfolding transition_in
  transition_here n k read e h r =
      let t = lt-ltb k ix.transitions h in
      rw (transition_is s ix n) (rw (sym e) (rw (t, r) refl))

  -- and past it
  pub transition_past : (n k : ℕ) → k ≡ at 32 n → ix.transitions ≤ k → blank_transition ≡ transition_c (sheet_in s ix) n
  unfolding transition_in
  transition_past n k e h =
      let t = le-ltb k ix.transitions h in
      rw (transition_is s ix n) (rw (sym e) (rw t refl))
