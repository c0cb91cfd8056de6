-- `signed_field` meets its contract: code and definition are one composition. Assumes nothing.
use Rattle.cursor.specs.Cursor.{signed_field}
use Rattle.words.proofs.signed_field.Goals as goal

pub returns : goal.returns
unfolding signed_field
returns c = simp (c.judged.ensures, c.within-right.ensures, c.take_signed-taken.ensures)
