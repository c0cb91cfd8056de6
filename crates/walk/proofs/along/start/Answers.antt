-- The invariants on zeros, as in `invariants_table`.
use Rattle.walk.proofs.along.start.Goals as goal

pub returns : goal.returns
returns c = c.guards_of.ensures
