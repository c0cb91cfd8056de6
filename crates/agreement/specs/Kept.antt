-- Kept and cut of a reply (paper 01, "Kept is the number of settings with a run, cut of those without; together they are the product of
-- the widths").
use Rattle.std.specs.Prelude.{◌≡◌, ◌↔◌, ℕ, ◌+◌, ℤ}
use mathlib.Core.List.{List, Memᴰ, Nodup}
use Rattle.answers.specs.declared.windows.Counts.{Counts}
use Rattle.cutting.specs.Kept.{Counted}
use Rattle.expr.specs.Records.{range_list}
use Rattle.valuations.specs.Valuations.{widths, valuations}
use Rattle.sweep.specs.Theorems.{sheet_of}
use Rattle.timed.specs.Runs.{Run}
use Rattle.agreement.specs.Words.{windows_of, Lists, InRange}

-- the valuations of the file's ranges
abbrev pub valuations_of : List ℕ → List (List ℤ)
valuations_of file = valuations (range_list (sheet_of file).ranges)

pub record Tallied (file : List ℕ) (c : Counts) : Type 0 where
  -- the valuations that are counted are those in the ranges, each once
  pub those : (v : List ℤ) → Memᴰ v (valuations_of file) ↔ InRange file v
  pub once : Nodup (valuations_of file)
  -- kept is the number of those with a run, cut of those without; together they are the product of the widths
  pub kept : Counted (λ v. Run (sheet_of file) v) (valuations_of file) c.kept
  pub cut : Counted (λ v. Run (sheet_of file) v → ⊥) (valuations_of file) c.cut
  pub together : c.kept + c.cut ≡ widths (range_list (sheet_of file).ranges)

abbrev pub KeptCounts : Type 0
KeptCounts = (file : List ℕ) (n : ℕ) → Lists file n → Tallied file (windows_of file n).counts
