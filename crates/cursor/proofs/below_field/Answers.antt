-- `cursor::below_field` meets its contract: code and definition are one composition. Assumes nothing.
use Rattle.cursor.specs.Cursor.{below_field}
use Rattle.cursor.proofs.below_field.Goals as goal

pub returns : goal.returns
unfolding below_field
returns c = simp (c.judged.ensures, c.take_byte-taken.ensures)
