-- `word_field` meets its contract: code and definition are one composition. Assumes nothing.
use Rattle.cursor.specs.Cursor.{word_field}
use Rattle.words.proofs.word_field.Goals as goal

pub returns : goal.returns
unfolding word_field
returns c = simp (c.judged.ensures, c.within-right.ensures, c.take_word-taken.ensures)
