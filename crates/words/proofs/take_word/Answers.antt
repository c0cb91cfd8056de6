-- `take_word` meets its contract: the tests on the way pick the definition's case. Assumes nothing.
use borrow.Author.Tests.{le-leb, lt-leb}
use Rattle.cursor.specs.Cursor.{word_taken}
use Rattle.words.proofs.take_word.Goals as goal

pub returns-then-saturating_sub-ge2 : goal.returns-then-saturating_sub-ge2
unfolding word_taken
returns-then-saturating_sub-ge2 c =
    let h = rw c.saturating_sub.ensures at c.if-saturating_sub-ge2.true in
    simp (
      c.word_of.ensures,
      c.byte_at-then-saturating_sub-ge2.ensures,
      c.byte_at.ensures,
      c.if-cursor.true,
      le-leb _ _ h,
    )

pub returns-else-saturating_sub-ge2 : goal.returns-else-saturating_sub-ge2
unfolding word_taken
returns-else-saturating_sub-ge2 c =
    let h = rw c.saturating_sub.ensures at c.if-saturating_sub-ge2.false in
    simp (c.stop.ensures, c.if-cursor.true, lt-leb _ _ h)

pub returns-else-cursor : goal.returns-else-cursor
unfolding word_taken
returns-else-cursor c = simp c.if-cursor.false
