-- The two cases of an item.
use mathlib.Core.Path.{◌≡◌, refl}
use Prim.Native.Nat.{ℕ, ◌≤◌, ◌<◌, min}
use native.Mathlib.Omega.{arith}
use borrow.Author.Tests.{lt-ltb, le-ltb}
use Rattle.expr.specs.declared.range.Ranges.{Ranges}
use Rattle.zones.specs.declared.zone.Zone.{Zone}
use Rattle.pieces.specs.declared.Piece.{Piece}
use Rattle.pieces.specs.Pieces.{blank_piece}
use Rattle.pieces.specs.Table.{piece_in, item_for}

module _ (b : Ranges) (pieces n i : ℕ) (z : Zone) where
  pub item_in : (p : Piece) → n ≡ min pieces 32 → i < n → p ≡ piece_in b z → p ≡ item_for b pieces i z
  unfolding item_for
  item_in p e h k = rw (lt-ltb i (min pieces 32) (omega arith)) k

  pub item_past : n ≡ min pieces 32 → n ≤ i → blank_piece ≡ item_for b pieces i z
  unfolding item_for
  item_past e h = rw (le-ltb i (min pieces 32) (omega arith)) refl
