-- `signed_of` meets its contract: the difference is the definition's. Assumes nothing.
use native.Mathlib.Omega.{arith}
use Rattle.std.proofs.lemmas.Int.{ints}
use Rattle.cursor.specs.Cursor.{signed_of}
use Rattle.words.proofs.signed_of.Goals as goal

pub returns : goal.returns
unfolding signed_of
returns c = omega (arith, ints)
