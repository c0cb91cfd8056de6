-- The item for a place of the table is the one that the work has there.
use mathlib.Core.List.{List}
use mathlib.Core.Path.{◌≡◌, refl, sym, ap}
use Prim.Native.Nat.{ℕ, min}
use native.Mathlib.Omega.{arith}
use borrow.Author.Tests.{ltb-true}
use lib.Dec.{ltb}
use lib.IntN.{ℤ}
use lib.ListN.{get_or}
use mathlib.Core.Bool.{Bool, true, false, cond}
use Rattle.cells.specs.Cells.{cells_in}
use Rattle.expr.specs.declared.range.Ranges.{Ranges}
use Rattle.steps.specs.Steps.{no_zone}
use Rattle.windows_route.specs.Places.{zone_in, list_of, list_at}
use Rattle.pieces.specs.Pieces.{blank_piece}
use Rattle.pieces.specs.Table.{work_in, piece_in, item_for, item_of}

-- places that have a piece are among the first 32, where the zone of the lists is the one at that place
pub item_at : (b : Ranges) (pieces : ℕ) (l : List ℤ) (m ns : List ℕ) (i : ℕ)
    → item_for b pieces i (zone_in ns (cells_in l m) i) ≡ item_of (work_in b pieces l m ns) i
unfolding item_for item_of
item_at b pieces l m ns i = by (ltb i (min pieces 32)) refl
  where
    by : (c : Bool) → ltb i (min pieces 32) ≡ c
        → cond c (piece_in b (zone_in ns (cells_in l m) i)) blank_piece ≡ cond c (piece_in b (get_or (list_of ns (cells_in l m)) i no_zone))
        blank_piece
    by true e =
        let h = ltb-true i (min pieces 32) e in
        ap (piece_in b) (sym (list_at ns (cells_in l m) i (omega arith)))
    by false e = refl
