-- The number and the place of each answer (paper 01, "When no piece is given"). The calls' promises and all statements speak through these.
use Rattle.std.specs.Prelude.{ℕ, ⊤}
use Rattle.std.specs.declared.result.Result.{Result}
use Rattle.std.specs.declared.result.Result.TheVariants.{Ok, Err}
use Rattle.answers.specs.declared.Numbered.{Numbered}
use Rattle.answers.specs.declared.file.Refusal.{Refusal}
use Rattle.answers.specs.declared.file.Refusal.TheVariants.{Size, Contents, Body, Valuations, Route}
use Rattle.answers.specs.declared.sweep.Found.{Found}
use Rattle.answers.specs.declared.sweep.Found.TheVariants.{Run, Void}
use Rattle.answers.specs.declared.sweep.Refused.{Refused as SweepRefused}
use Rattle.answers.specs.declared.sweep.Refused.TheVariants as sweep
use Rattle.answers.specs.declared.windows.Refused.{Refused as WindowsRefused}
use Rattle.answers.specs.declared.windows.Refused.TheVariants as windows
use Rattle.answers.specs.declared.windows.Counts.{Counts}

-- a number of the paper and a place
abbrev pub numbered : ℕ → ℕ → Numbered
numbered n k = record { number = n; place = k }

-- why a file is refused: 3 and 4 have the offset of the first wrong field, 5 that of the route byte; 16 (paper 02, request (i)), too many
-- valuations, has 0
abbrev pub refusal_as : Refusal → Numbered
refusal_as Size = numbered 2 0
refusal_as (Contents at) = numbered 3 at
refusal_as (Body at) = numbered 4 at
refusal_as Valuations = numbered 16 0
refusal_as (Route at) = numbered 5 at

-- a file that is fine has 0, place 0
abbrev pub checked_as : Result ⊤ Refusal → Numbered
checked_as (Ok u) = numbered 0 0
checked_as (Err r) = refusal_as r

-- why Sweep tells nothing: 6 has the index of the parameter, the first being 0
abbrev pub refused_as : SweepRefused → Numbered
refused_as (sweep.File r) = refusal_as r
refused_as (sweep.Outside k) = numbered 6 k

-- Sweep: 0 a run, 1 void, else the refusal
abbrev pub sweep_as : Result Found SweepRefused → Numbered
sweep_as (Ok Run) = numbered 0 0
sweep_as (Ok Void) = numbered 1 0
sweep_as (Err r) = refused_as r

-- why Windows lists no zones: 7 and 8 have the visit (moves made). 9 (paper 01: a number leaves its range) is met by no sheet (paper 02,
-- request (n): crate sizes), and its number is not used again
abbrev pub cut_refused_as : WindowsRefused → Numbered
cut_refused_as windows.Small = numbered 1 0
cut_refused_as (windows.File r) = refusal_as r
cut_refused_as (windows.Zones visit) = numbered 7 visit
cut_refused_as (windows.Inequalities visit) = numbered 8 visit

-- Windows: 0 where the zones are listed, else the refusal
abbrev pub windows_as : Result Counts WindowsRefused → Numbered
windows_as (Ok c) = numbered 0 0
windows_as (Err r) = cut_refused_as r

abbrev pub no_counts : Counts
no_counts = record { pieces = 0; kept = 0; cut = 0 }

-- how many pieces, and the valuations kept and cut; zeros with a refusal
abbrev pub counts_of : Result Counts WindowsRefused → Counts
counts_of (Ok c) = c
counts_of (Err r) = no_counts
