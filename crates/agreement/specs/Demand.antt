-- Demand 3 in one record, over the replies of the two calls on the same file, for every file and every table of n places: Windows refuses
-- on the papers' grounds only; its pieces are those that the cutting gives, and with a refusal the table is blank; for every sheet that
-- it doesn't refuse and every valuation in its ranges, it agrees with Sweep and with runs; kept and cut count the valuations with a run
-- and without.
use Rattle.std.specs.Prelude.{List, ℕ}
use Rattle.sweep.specs.Theorems.{SweepRight}
use Rattle.agreement.specs.Agreement.{Agreement}
use Rattle.agreement.specs.Grounds.{Grounds}
use Rattle.agreement.specs.Kept.{KeptCounts}
use Rattle.agreement.specs.Stored.{TableFilled, RefusedBlank}

pub record Demand3 : Type 0 where
  -- each answer of Windows exactly if its ground holds
  pub on_grounds : (file : List ℕ) (n : ℕ) → Grounds file n
  -- the table: the cutting's zones in order, and blanks; all blank with a refusal
  pub filled : TableFilled
  pub blank : RefusedBlank
  -- for every valuation in the ranges: Sweep doesn't refuse it, at most one piece holds it, void exactly when none does and when no run
  -- exists, all 25 entries equal, tightest over the end states of all runs
  pub agrees : Agreement
  -- kept and cut
  pub counted : KeptCounts
  -- Sweep's own reply: right against runs, padding, and all zero when void or refused
  pub sweeps : SweepRight
