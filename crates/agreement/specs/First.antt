-- The setting to start from (paper 02, request (c)): the valuation that each piece of the table carries is the first that it holds,
-- comparing parameter 1, then 2, then 3, smaller first. Its proof is in FirstProof.
use Rattle.std.specs.Prelude.{◌≡◌, List, ℕ, ◌≤◌, ◌<◌, ℤ, pos, get_or}
use Rattle.expr.specs.Records.{point}
use Rattle.valuations.specs.First.{Earlier}
use Rattle.sweep.specs.Theorems.{sheet_of}
use Rattle.agreement.specs.Words.{Lists, pieces, piece_at, InRange, PieceHolds}

-- the valuation that place i carries
abbrev pub first_at : List ℕ → ℕ → ℕ → List ℤ
first_at file n i = point (piece_at file n i).first

pub record StartsAt (file : List ℕ) (n i : ℕ) : Type 0 where
  -- it is in the ranges, and the piece holds it: so every piece holds a valuation
  pub in_range_lem : InRange file (first_at file n i)
  pub held : PieceHolds (piece_at file n i) (first_at file n i)
  -- the piece holds none that comes before it
  pub none_earlier : (v : List ℤ) → InRange file v → Earlier v (first_at file n i) → PieceHolds (piece_at file n i) v → ⊥
  -- it is zero for a parameter that the sheet lacks
  pub lacking : (k : ℕ) → (sheet_of file).parameters ≤ k → get_or (first_at file n i) k (pos 0) ≡ pos 0

-- ---- the statement: for every file that Windows does not refuse, and each of its pieces (a place that is blank carries zeros: Stored)
abbrev pub PiecesStart : Type 0
PiecesStart = (file : List ℕ) (n : ℕ) → Lists file n → (i : ℕ) → i < pieces file n → StartsAt file n i
