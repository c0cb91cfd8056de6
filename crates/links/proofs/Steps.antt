-- The ends of a transition that is read again where it stands; a route that has been followed up to its count.
use Prim.Native.Nat.{ℕ, ◌<◌, ◌≤◌, min}
use mathlib.Core.Path.{◌≡◌, refl, sym, ◌∙◌}
use mathlib.Core.List.{List}
use mathlib.Core.Bool.{Bool, true, false}
use native.Mathlib.Omega.{arith}
use lib.Dec.{ltb}
use lib.ListN.{get_or, length, get_or-eq_default}
use borrow.Author.Tests.{ltb-true, ltb-false, lt-ltb, le-ltb}
use Rattle.cursor.specs.declared.Cursor.{Cursor}
use Rattle.cursor.specs.Cursor.{advanced, below_field, iterate}
use Rattle.cursor_laws.specs.Counted.{beyond}
use Rattle.automaton.specs.declared.Transition.{Transition}
use Rattle.automaton.specs.Automaton.{blank_transition, no_transition, transition_at}
use Rattle.std.proofs.Common.{Result, Ok, Err}
use Rattle.route.specs.Route.{ends_at, link_step, links_of}
use Rattle.index.specs.declared.Index.{Index}
use Rattle.index.specs.Listed.{listed, listed_long}
use Rattle.index.specs.SheetIn.{transition_in, sheet_in}
use Rattle.index.specs.SheetLaws.{transition_at_number}

module _ (s : List ℕ) (ix : Index) where
  -- the ends of transition n, where the count has it: its first two bytes
  pub ends_here :
      (n : ℕ) (from to : Cursor) → n < 32 → n < ix.transitions →
      from ≡ below_field s ix.third ix.locations (advanced (get_or ix.transition n 0) 0) →
      to ≡ below_field s ix.third ix.locations from →
      record { from = from.byte; to = to.byte } ≡ ends_at (sheet_in s ix).transition n
  unfolding ends_at transition_in transition_at
  ends_here n from to h g e f =
      let t = lt-ltb n ix.transitions g in
      rw (transition_at_number s ix n h) (rw (t, f, e) refl)

  -- past the count
  pub ends_past : (n : ℕ) → n < 32 → ix.transitions ≤ n → record { from = 0; to = 0 } ≡ ends_at (sheet_in s ix).transition n
  unfolding ends_at transition_in blank_transition
  ends_past n h g =
      let t = le-ltb n ix.transitions g in
      rw (transition_at_number s ix n h) (rw t refl)

  -- and past the list
  pub ends_none : (n : ℕ) → 32 ≤ n → record { from = 0; to = 0 } ≡ ends_at (sheet_in s ix).transition n
  unfolding ends_at sheet_in
  ends_none n h =
      let long = listed_long (transition_in s ix) 32 in
      let past : length (listed (transition_in s ix) 32) ≤ n = omega arith in
      rw (get_or-eq_default (listed (transition_in s ix) 32) no_transition past) refl

-- past the count a step does nothing
past :
    (transition : List Transition) (route : List ℕ) (moves k : ℕ) (link : Result ℕ ℕ) → moves ≤ k →
    link_step transition route moves k link ≡ link
unfolding link_step
past transition route moves k (Ok location) h =
    let t = le-ltb k moves h in
    rw t refl
past transition route moves k (Err index) h = refl

-- a route that has been followed up to its count
links_cases :
    (transition : List Transition) (route : List ℕ) (moves i : ℕ) (b : Bool) → ltb moves 32 ≡ b → i ≡ min moves 32 →
    iterate (link_step transition route moves) (Ok 0) i ≡ iterate (link_step transition route moves) (Ok 0) 32
links_cases transition route moves i true e h =
    let few = ltb-true moves 32 e in
    let same : i ≡ moves = omega arith in
    rw same (sym (beyond (link_step transition route moves) (Ok 0) moves 32 (omega arith) (past transition route moves)))
links_cases transition route moves i false e h =
    let many = ltb-false moves 32 e in
    let same : i ≡ 32 = omega arith in
    rw same refl

pub links_done :
    (transition : List Transition) (route : List ℕ) (moves i n location : ℕ) → n ≡ min moves 32 → i ≤ n → (i < n → ⊥) →
    Ok location ≡ iterate (link_step transition route moves) (Ok 0) i → Ok location ≡ links_of transition route moves
unfolding links_of
links_done transition route moves i n location e l g h =
    h ∙ links_cases transition route moves i (ltb moves 32) refl (omega arith)
