-- Locations and transitions as code reads them are the sheet's, at every index that a sheet has.
use Rattle.std.specs.Prelude.{◌≡◌, refl, ℕ, ◌<◌, get_or}
use Rattle.std.proofs.Common.{lt-ltb}
use Rattle.sheet.specs.Lookup.{location_c, transition_c}
use Rattle.sheet.specs.declared.Sheet.{Sheet}
use Rattle.automaton.specs.Automaton.{no_location}
use Rattle.timed.specs.Automaton.{transition_at}

-- ---- in range they are the sheet's
pub location_in_lem : (s : Sheet) (l : ℕ) → l < 16 → location_c s l ≡ get_or s.location l no_location
unfolding location_c
location_in_lem s l h = rw (lt-ltb l 16 h) refl

pub transition_in_lem : (s : Sheet) (n : ℕ) → n < 32 → transition_c s n ≡ transition_at s n
unfolding transition_c
transition_in_lem s n h = rw (lt-ltb n 32 h) refl
