-- The sweep of the valuation that `in_ranges` found, or refusal 6.
use mathlib.Core.Path.{ap, ◌∙◌}
use Rattle.index.specs.SheetIn.{sheet_in}
use Rattle.sweep.specs.TableReply.{swept_table}
use Rattle.sweep.proofs.Replies.{inside_reply, outside_reply}
use Rattle.sweep.proofs.reply.reply_for.Goals as goal

pub returns-in-Ok : goal.returns-in-Ok
unfolding sheet_in
returns-in-Ok c =
    c.swept.ensures ∙ ap swept_table c.walk.ensures
    ∙ inside_reply (sheet_in c.args.file.now c.args.ix) c.args.numbers.list _ c.in-Ok.ensures

pub returns-in-Err : goal.returns-in-Err
unfolding sheet_in
returns-in-Err c = c.blank.ensures ∙ outside_reply (sheet_in c.args.file.now c.args.ix) c.args.numbers.list _ c.in-Err.ensures
