-- Windows' grounds (paper 01, "When no piece is given"): each answer is given exactly if there is ground for it, and there are no other
-- answers.
use Rattle.std.specs.Prelude.{◌≡◌, ◌↔◌, ◌⊎◌, List, ℕ, ◌≤◌, ◌<◌}
use Rattle.answers.specs.Numbers.{numbered}
use Rattle.cutting.specs.Cutting.{Listing, listed, refused, zones_of, SevenOrEight}
use Rattle.cutting.specs.Cutting as cutting
use Rattle.reading.specs.File.{Fine, read_of, OfFile}
use Rattle.sweep.specs.Theorems.{sheet_of}
use Rattle.agreement.specs.Words.{windows_of, listed_reply}

-- what the cutting of the file's sheet comes to is the listing, the table having room (not 1) and the file being fine (not 2 to 5 or 16)
abbrev pub CutTo : List ℕ → ℕ → Listing → Type 0
CutTo file n o = (32 ≤ n) × Fine (read_of file) × (zones_of (sheet_of file) ≡ o)

-- for a table of n places
pub record Grounds (file : List ℕ) (n : ℕ) : Type 0 where
  -- 1: a table under 32
  pub small : ((windows_of file n).answer ≡ numbered 1 0) ↔ (n < 32)
  -- 2 to 5 or 16: the file's refusal
  pub file_refused : (m k : ℕ) → OfFile m
      → ((windows_of file n).answer ≡ numbered m k) ↔ ((32 ≤ n) × ((read_of file).answer ≡ numbered m k))
  -- 7 or 8 at a visit: the first met in the cutting
  pub cutting_refused : (m k : ℕ) → SevenOrEight m → ((windows_of file n).answer ≡ numbered m k) ↔ CutTo file n (refused m k)
  -- else the zones are listed
  pub zones_listed :
      (zs : List cutting.Zone)
      → (windows_of file n ≡ listed_reply (sheet_of file) zs) ↔ CutTo file n (listed zs)
  -- there are no other answers
  pub only :
      ((windows_of file n).answer.number ≡ 0) ⊎ ((windows_of file n).answer ≡ numbered 1 0)
      ⊎ OfFile (windows_of file n).answer.number ⊎ SevenOrEight (windows_of file n).answer.number
