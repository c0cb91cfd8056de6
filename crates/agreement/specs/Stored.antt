-- What the table has after the call (paper 01, "The lent table of pieces gets the pieces in order; the rest of it becomes blank"): where
-- the zones are listed, they in order and blank places past them; with a refusal it is all blank.
use Rattle.std.specs.Prelude.{◌≡◌, List, map, true, ℕ, ◌≤◌, ◌<◌, length, get_or, take, replicate}
use Rattle.constrain.specs.Rules.{entry_c}
use Rattle.cutting.specs.Cutting.{listed, zones_of}
use Rattle.cutting.specs.Cutting as cutting
use Rattle.dbm.specs.Matrix.{Outside}
use Rattle.expr.specs.Records.{zero_bound, zero_expr}
use Rattle.sweep.specs.Theorems.{sheet_of}
use Rattle.pieces.specs.Pieces.{piece_of, blank_piece}
use Rattle.agreement.specs.Words.{Lists, pieces, table, piece_at}

pub record Filled (file : List ℕ) (n : ℕ) : Type 0 where
  -- the places that were lent, of which at most 32 are pieces
  pub long : length (table file n) ≡ n
  pub few : pieces file n ≤ 32
  -- the pieces are the zones that the cutting lists, in order
  pub zones :
      (zs : List cutting.Zone) × (zones_of (sheet_of file) ≡ listed zs)
      × (take (pieces file n) (table file n) ≡ map (piece_of (sheet_of file).ranges) zs)
  -- a piece is in use; it has at most 24 inequalities, and zeros past them; past the sheet's clocks its entries are zero, not strict
  pub used : (i : ℕ) → i < pieces file n → (piece_at file n i).used ≡ true
  pub ineqs : (i : ℕ) → i < pieces file n → (piece_at file n i).count ≤ 24
  pub spare : (i k : ℕ) → i < pieces file n → (piece_at file n i).count ≤ k → get_or (piece_at file n i).ineqs k zero_expr ≡ zero_expr
  pub padding : (i k l : ℕ) → i < pieces file n → k ≤ 4 → l ≤ 4 → Outside (sheet_of file).clocks k l
      → entry_c (piece_at file n i).bounds k l ≡ zero_bound
  -- every other place is blank
  pub blank : (i : ℕ) → pieces file n ≤ i → i < n → piece_at file n i ≡ blank_piece

abbrev pub TableFilled : Type 0
TableFilled = (file : List ℕ) (n : ℕ) → Lists file n → Filled file n

-- a refusal leaves every place blank
abbrev pub RefusedBlank : Type 0
RefusedBlank = (file : List ℕ) (n : ℕ) → (Lists file n → ⊥) → table file n ≡ replicate n blank_piece
