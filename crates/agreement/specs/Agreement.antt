-- Windows and Sweep agree: what holds of a file that Windows does not refuse and a valuation in its ranges (paper 01, "The two calls").
use Rattle.std.specs.Prelude.{◌≡◌, ◌↔◌, ◌⊎◌, List, ℕ, ◌≤◌, ◌<◌, ℤ}
use Rattle.sweep.specs.Reply.{reply_of}
use Rattle.sweep.specs.Theorems.{sheet_of, IsVoid, IsRun, entry_at}
use Rattle.timed.specs.Runs.{Run, Tightest}
use Rattle.agreement.specs.Words.{Lists, pieces, piece_at, InRange, PieceHolds, entry_with}

pub record Agrees (file : List ℕ) (n : ℕ) (v : List ℤ) : Type 0 where
  -- Sweep does not refuse
  pub answered : IsRun file v ⊎ IsVoid file v
  -- at most one piece holds v
  pub one_piece : (i j : ℕ) → i < pieces file n → j < pieces file n → PieceHolds (piece_at file n i) v → PieceHolds (piece_at file n j) v
      → i ≡ j
  -- void exactly if no piece holds v, and exactly if no run follows the route under v
  pub void_iff_none : IsVoid file v ↔ ((i : ℕ) → i < pieces file n → PieceHolds (piece_at file n i) v → ⊥)
  pub void_iff_no_run : IsVoid file v ↔ (Run (sheet_of file) v → ⊥)
  -- some piece holds v exactly if a run follows the route under v
  pub held_iff_run : ((i : ℕ) × (i < pieces file n) × PieceHolds (piece_at file n i) v) ↔ Run (sheet_of file) v
  -- the piece that holds v: all 25 entries are Sweep's
  pub entries_equal :
      (i : ℕ) → i < pieces file n → PieceHolds (piece_at file n i) v → (k l : ℕ) → k ≤ 4 → l ≤ 4
      → entry_with (piece_at file n i) v k l ≡ entry_at (reply_of file v) k l
  -- and those of clock 0 and the sheet's clocks are tightest
  pub entries_tightest :
      (i : ℕ) → i < pieces file n → PieceHolds (piece_at file n i) v → (k l : ℕ) → k ≤ (sheet_of file).clocks → l ≤ (sheet_of file).clocks
      → Tightest (sheet_of file) v k l (entry_with (piece_at file n i) v k l)

abbrev pub Agreement : Type 0
Agreement = (file : List ℕ) (n : ℕ) → Lists file n → (v : List ℤ) → InRange file v → Agrees file n v
