-- `shifted` meets its contract: a sum that wraps is the remainder by 65,536. Assumes nothing.
use mathlib.Core.Path.{refl}
use Rattle.cursor.specs.Cursor.{shifted}
use Rattle.words.proofs.shifted.Goals as goal

pub returns : goal.returns
unfolding shifted
returns c = refl
