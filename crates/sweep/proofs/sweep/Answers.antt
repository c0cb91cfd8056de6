-- The reply by what `indexed` gave.
use mathlib.Core.Path.{◌∙◌}
use Rattle.sweep.proofs.Replies.{fine_reply, refused_reply_lem}
use Rattle.sweep.proofs.sweep.Goals as goal

pub returns-in-Ok : goal.returns-in-Ok
returns-in-Ok c = c.reply_for.ensures ∙ fine_reply c.args.file.now _ _ c.in-Ok.ensures

pub returns-in-Err : goal.returns-in-Err
returns-in-Err c = c.blank.ensures ∙ refused_reply_lem c.args.file.now _ _ c.in-Err.ensures
