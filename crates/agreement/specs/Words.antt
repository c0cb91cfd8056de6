-- The words of demand 3: what Windows replies, its table and its pieces; valuations in the ranges; a piece at a valuation.
use Rattle.std.specs.Prelude.{◌≡◌, List, map, true, ℕ, ℤ, length, get_or, take}
use Rattle.answers.specs.Numbers.{numbered}
use Rattle.constrain.specs.Rules.{entry_c}
use Rattle.cutting.specs.Cutting as cutting
use Rattle.cutting.specs.Kept.{kept_of, cut_of}
use Rattle.weight.specs.Upper.{Upper}
use Rattle.expr.specs.Bounds.{at_v}
use Rattle.expr.specs.Records.{affine, bound_as, range_list}
use Rattle.valuations.specs.Valuations.{satisfies}
use Rattle.sheet.specs.declared.Sheet.{Sheet}
use Rattle.sweep.specs.Theorems.{number_at}
use Rattle.windows_reply.specs.Reply.{WindowsReply, reply_of}
use Rattle.pieces.specs.Pieces.{table_of, blank_piece}
use Rattle.pieces.specs.declared.Piece.{Piece}

-- what Windows replies to a file, with a table of n places
abbrev pub windows_of : List ℕ → ℕ → WindowsReply
windows_of = reply_of

-- it lists its pieces: it does not refuse
abbrev pub Lists : List ℕ → ℕ → Type 0
Lists file n = (windows_of file n).answer.number ≡ 0

-- the reply that lists these zones of the sheet: how many, kept and cut, the ranges that were cut, and the zones
abbrev pub listed_reply : Sheet → List cutting.Zone → WindowsReply
listed_reply s zs =
    record {
      answer = numbered 0 0;
      counts = record { pieces = length zs; kept = kept_of (range_list s.ranges) zs; cut = cut_of (range_list s.ranges) zs };
      ranges = s.ranges;
      zones = zs;
    }

-- how many pieces there are
abbrev pub pieces : List ℕ → ℕ → ℕ
pieces file n = (windows_of file n).counts.pieces

-- the table after the call
abbrev pub table : List ℕ → ℕ → List Piece
table file n = table_of (windows_of file n) n

-- its place i; only the places below the number of pieces, which the call fills, are its pieces
abbrev pub piece_at : List ℕ → ℕ → ℕ → Piece
piece_at file n i = get_or (table file n) i blank_piece

-- v is in the ranges: 6 doesn't refuse it
abbrev pub InRange : List ℕ → List ℤ → Type 0
InRange file v = number_at file v ≡ 6 → ⊥

-- a piece holds v, which is in the ranges: v meets all the piece's inequalities
abbrev pub PieceHolds : Piece → List ℤ → Type 0
PieceHolds z v = satisfies (map affine (take z.count z.ineqs)) v ≡ true

-- entry (k, l) of a piece's matrix with v put in
abbrev pub entry_with : Piece → List ℤ → ℕ → ℕ → Upper ℤ
entry_with z v k l = at_v v (bound_as (entry_c z.bounds k l))
