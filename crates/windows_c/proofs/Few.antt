-- At most 32 pieces are listed.
-- Assumes nothing.
use mathlib.Core.Path.{◌≡◌, refl}
use mathlib.Core.Bool.{Bool, true, false, cond}
use mathlib.Core.List.{List}
use Prim.Native.Nat.{ℕ, ◌≤◌}
use native.Mathlib.Omega.{arith}
use lib.Dec.{ltb, eqb}
use Rattle.answers.specs.Numbers.{numbered}
use Rattle.cutting.specs.Cutting.{Listing, listed, refused, zones_of}
use Rattle.cutting.proofs.ShapeProof.{zones_shaped}
use Rattle.reading.specs.File.{read_of}
use Rattle.sheet.specs.declared.Sheet.{Sheet}
use Rattle.windows_reply.specs.Reply.{refused_reply, listing_reply, sheet_reply, read_reply, reply_of}

listing_few : (s : Sheet) (l : Listing) → zones_of s ≡ l → (listing_reply s l).counts.pieces ≤ 32
unfolding listing_reply
listing_few s (listed zs) e = (zones_shaped s zs e).0
listing_few s (refused n visit) e = omega arith

pub reply_few : (file : List ℕ) (n : ℕ) → (reply_of file n).counts.pieces ≤ 32
unfolding reply_of read_reply sheet_reply
reply_few file n = by (ltb n 32) (eqb (read_of file).answer.number 0)
  where
    s : Sheet
    s = (read_of file).sheet

    by : (b c : Bool) → (cond b (refused_reply (numbered 1 0))
        (cond c (listing_reply s (zones_of s)) (refused_reply (read_of file).answer))).counts.pieces ≤ 32
    by true c = omega arith
    by false true = listing_few s (zones_of s) refl
    by false false = omega arith
