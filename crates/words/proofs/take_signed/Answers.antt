-- `take_signed` meets its contract: the two bytes are taken, and shifted unless the body stopped early. Assumes nothing.
use Rattle.cursor.specs.Cursor.{signed_taken}
use Rattle.words.proofs.take_signed.Goals as goal

pub returns-then-taken : goal.returns-then-taken
unfolding signed_taken
returns-then-taken c =
    let ok = c.take_word-taken.ensures in
    let h = rw ok at c.if-taken.true in
    simp (c.shifted.ensures, ok, h)

pub returns-else-taken : goal.returns-else-taken
unfolding signed_taken
returns-else-taken c =
    let h = rw c.take_word-taken.ensures at c.if-taken.false in
    simp (c.take_word-taken.ensures, h)
