-- What `work_for` says of the lists that it leaves is the answer and the table.
use mathlib.Core.Path.{◌∙◌}
use lib.ListN.{length}
use Rattle.windows_reply.specs.Reply.{reply_of}
use Rattle.pieces.specs.Table.{work_table, work_answer, refused_table, refused_answer}
use Rattle.windows.proofs.windows.Goals as goal

pub returns-in-Ok : goal.returns-in-Ok
returns-in-Ok c =
    let a = c.args in
    let w = c.work_for in
    let ok = c.in-Ok in
    record {
      result_value = work_answer (reply_of a.file.now (length a.table.now)) ok.work w.new.cells w.new.marks w.new.counts ok.ensures;
      table_after =
          c.store.ensures
          ∙ work_table a.file.now (length a.table.now) ok.work w.new.cells w.new.marks w.new.counts ok.ensures;
    }

pub returns-in-Err : goal.returns-in-Err
returns-in-Err c =
    let a = c.args in
    let err = c.in-Err in
    record {
      result_value = refused_answer (reply_of a.file.now (length a.table.now)) err.refused err.ensures;
      table_after = c.fill.ensures.after (λ y h. h) ∙ refused_table a.file.now (length a.table.now) err.refused err.ensures;
    }
