-- `cursor::byte_field` meets its contract: code and definition are one composition. Assumes nothing.
use Rattle.cursor.specs.Cursor.{byte_field}
use Rattle.cursor.proofs.byte_field.Goals as goal

pub returns : goal.returns
unfolding byte_field
returns c = simp (c.judged.ensures, c.within-right.ensures, c.take_byte-taken.ensures)
