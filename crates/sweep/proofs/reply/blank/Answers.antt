-- The rows are those of `blank_reply`.
use mathlib.Core.Path.{refl}
use Rattle.sweep.specs.Reply.{blank_reply}
use Rattle.sweep.proofs.reply.blank.Goals as goal

pub returns : goal.returns
unfolding blank_reply
returns c = refl
