-- `entries::entry_field` meets its contract: code and definition are one composition. Assumes nothing.
use Rattle.contents.specs.Contents.{entry_field}
use Rattle.contents.proofs.entries.entry_field.Goals as goal

pub returns : goal.returns
unfolding entry_field
returns c = cc
