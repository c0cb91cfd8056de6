-- `body` meets its contract: code and definition are one composition. Assumes nothing.
use Rattle.body.specs.Body.{body_of, has_body}
use Rattle.body.proofs.body.Goals as goal

pub returns : goal.returns
unfolding body_of has_body
returns c = cc
