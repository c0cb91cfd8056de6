-- What Sweep's reply is worth, for every file and every valuation: the claims of Claims, over the reply.
use Rattle.std.specs.Prelude.{◌≡◌, ◌↔◌, ◌⊎◌, List, [], ℕ, ◌≤◌, ℤ, get_or}
use Rattle.dbm.specs.Matrix.{Outside}
use Rattle.weight.specs.Upper.{Upper, zero_w}
use Rattle.expr.specs.Ranges.{Inside}
use Rattle.weight.specs.Records.{weight_as, zero_weight}
use Rattle.expr.specs.Records.{range_list}
use Rattle.reading.specs.File.{Fine, read_of}
use Rattle.sheet.specs.declared.Sheet.{Sheet}
use Rattle.sweep.specs.Reply.{SweepReply, row_record, zero_rows, reply_of}
use Rattle.timed.specs.Runs.{Run, Tightest}

-- ---- the words of the statement
-- the sheet of a file
abbrev pub sheet_of : List ℕ → Sheet
sheet_of file = (read_of file).sheet

-- the number that Sweep answers
abbrev pub number_at : List ℕ → List ℤ → ℕ
number_at file v = (reply_of file v).answer.number

-- 1 is void, 0 a run
abbrev pub IsVoid : List ℕ → List ℤ → Type 0
IsVoid file v = number_at file v ≡ 1

abbrev pub IsRun : List ℕ → List ℤ → Type 0
IsRun file v = number_at file v ≡ 0

-- entry (i, j) of a reply's matrix
abbrev pub entry_at : SweepReply → ℕ → ℕ → Upper ℤ
entry_at reply i j = weight_as (get_or (get_or reply.rows i (row_record [])).entries j zero_weight)

-- ---- the statement
pub record Right (file : List ℕ) (v : List ℤ) : Type 0 where
  -- Sweep does not refuse
  pub answered : IsRun file v ⊎ IsVoid file v
  -- it answers void exactly if no run follows the route under v
  pub void_iff_no_run : IsVoid file v ↔ (Run (sheet_of file) v → ⊥)
  -- else each entry of clock 0 and the sheet's clocks is the tightest bound on that difference over the end states of all runs
  pub entries_tightest :
      IsRun file v → (i j : ℕ) → i ≤ (sheet_of file).clocks → j ≤ (sheet_of file).clocks
      → Tightest (sheet_of file) v i j (entry_at (reply_of file v) i j)
  -- and the other entries are padding: zero, not strict
  pub entries_padded : IsRun file v → (i j : ℕ) → i ≤ 4 → j ≤ 4 → Outside (sheet_of file).clocks i j → entry_at (reply_of file v) i j ≡ zero_w

pub record SweepRight : Type 0 where
  -- for every file that is not refused and every valuation in its ranges
  pub right : (file : List ℕ) (v : List ℤ) → Fine (read_of file) → Inside v (range_list (sheet_of file).ranges) → Right file v
  -- with a refusal or void every entry is zero, not strict
  pub blank : (file : List ℕ) (v : List ℤ) → (IsRun file v → ⊥) → (reply_of file v).rows ≡ zero_rows
