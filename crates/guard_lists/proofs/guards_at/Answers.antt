-- `guards_at` meets its contract: code and definition are one composition. Assumes nothing.
use Rattle.guards.specs.Guards.{guards_at}
use Rattle.guard_lists.specs.Listed.{guards_from}
use Rattle.guard_lists.proofs.guards_at.Goals as goal

pub returns : goal.returns
unfolding guards_at guards_from
returns c = simp (c.guards_from.ensures, c.byte_field-count.ensures)
