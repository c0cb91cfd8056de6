-- How large the numbers of the table are (paper 02, request (n)): each number of each bound of each piece is at most 33,000 in size. Its
-- proof is in SmallProof.
use Rattle.std.specs.Prelude.{List, ℕ, ◌≤◌, ◌<◌}
use Rattle.constrain.specs.Rules.{entry_c}
use Rattle.expr.specs.Records.{bound_as}
use Rattle.sizes.specs.Sizes.{AtMostB, ENTRY}
use Rattle.agreement.specs.Words.{Lists, pieces, piece_at}

-- ---- the statement: for every file that Windows does not refuse, each of its pieces, and all 25 entries of it
abbrev pub PiecesSmall : Type 0
PiecesSmall =
    (file : List ℕ) (n : ℕ) → Lists file n → (i : ℕ) → i < pieces file n → (k l : ℕ) → k ≤ 4 → l ≤ 4
    → AtMostB ENTRY (bound_as (entry_c (piece_at file n i).bounds k l))
