-- A location or a transition of an index's sheet by number.
use Rattle.std.specs.Prelude.{ℕ, ◌<◌, ◌≡◌, refl, List, Bool, true, false, cond, ltb, get_or}
use Rattle.std.proofs.Common.{arith, ltb-true}
use Rattle.automaton.specs.Automaton.{no_location, no_transition}
use Rattle.sheet.specs.Lookup.{at, location_c, transition_c}
use Rattle.index.specs.declared.Index.{Index}
use Rattle.index.specs.Listed.{listed_at}
use Rattle.index.specs.SheetIn.{location_in, transition_in, sheet_in}

below_cases : (n i : ℕ) (b : Bool) → ltb i n ≡ b → 0 < n → cond b i 0 < n
below_cases n i true e h = ltb-true i n e
below_cases n i false e h = h

at_below : (n i : ℕ) → 0 < n → at n i < n
at_below n i h = below_cases n i (ltb i n) refl h

pub place_below : (n i k : ℕ) → k ≡ at n i → 0 < n → k < n
place_below n i k e h = rw e (at_below n i h)

module _ (s : List ℕ) (ix : Index) where
  pub location_is : (l : ℕ) → location_c (sheet_in s ix) l ≡ location_in s ix (at 16 l)
  unfolding location_c sheet_in
  location_is l = listed_at (location_in s ix) no_location 16 (at 16 l) (at_below 16 l (omega arith))

  pub transition_is : (n : ℕ) → transition_c (sheet_in s ix) n ≡ transition_in s ix (at 32 n)
  unfolding transition_c sheet_in
  transition_is n = listed_at (transition_in s ix) no_transition 32 (at 32 n) (at_below 32 n (omega arith))

  pub transition_at_number : (n : ℕ) → n < 32 → get_or (sheet_in s ix).transition n no_transition ≡ transition_in s ix n
  unfolding sheet_in
  transition_at_number n h = listed_at (transition_in s ix) no_transition 32 n h
