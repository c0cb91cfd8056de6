-- What the lent table has after a call, for every reply and every length of table (paper 01, "The lent table of pieces"): the pieces in
-- order, the rest of it blank. With a refusal, which has no zones, it is all blank.
use Rattle.std.specs.Prelude.{List, ◌++◌, map, true, false, ℕ, ◌-◌, length, replicate}
use Rattle.coded.specs.Records.{zone_of}
use Rattle.cutting.specs.Cutting.{Zone}
use Rattle.cutting.specs.FirstHeld.{first_held}
use Rattle.expr.specs.Records.{range_list, valuation_of, zero_bound, zero_expr, zero_valuation}
use Rattle.expr.specs.declared.range.Ranges.{Ranges}
use Rattle.windows_reply.specs.Reply.{WindowsReply}
use Rattle.pieces.specs.declared.Piece.{Piece}

-- the place of a zone of these ranges: in use, with the first valuation that it holds (paper 02, (c): the setting to start from), and
-- its inequalities and its matrix as the code's records
abbrev pub piece_of : Ranges → Zone → Piece
piece_of b z =
    record {
      used = true;
      first = valuation_of (first_held (range_list b) z);
      count = (zone_of z).count;
      ineqs = (zone_of z).ineqs;
      bounds = (zone_of z).bounds;
    }

-- a place that is not used: its first valuation zeros, no inequalities, all entries zero, not strict
abbrev pub blank_piece : Piece
blank_piece =
    record { used = false; first = zero_valuation; count = 0; ineqs = replicate 24 zero_expr; bounds = replicate 25 zero_bound }

-- a table of n places then: the pieces in order, and the rest of it blank
unfoldable pub table_of : WindowsReply → ℕ → List Piece
table_of reply n = map (piece_of reply.ranges) reply.zones ++ replicate (n - length reply.zones) blank_piece
