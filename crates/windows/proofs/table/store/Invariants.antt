-- The first i items are stored.
use mathlib.Core.Path.{◌≡◌}
use Prim.Native.Nat.{ℕ, ◌<◌}
use lib.ListN.{get_or}
use Rattle.pieces.specs.Pieces.{blank_piece}
use Rattle.pieces.specs.Table.{work_in, item_of}
use Rattle.windows.proofs.table.store.Given as goal

abbrev pub invariant-loop-i : goal.invariant-loop-i
invariant-loop-i l = (k : ℕ) → k < l.i → get_or l.table k blank_piece ≡ item_of (work_in l.b l.pieces l.cells l.marks l.counts) k
