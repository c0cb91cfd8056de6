-- Refusal 1, then what `indexed` gave.
use mathlib.Core.Path.{◌∙◌}
use Rattle.indexing.specs.IndexedLaws.{indexing_well_formed}
use Rattle.windows_reply.proofs.Steps.{small_reply, index_reply, refused_reply_lem}
use Rattle.windows_reply.proofs.work_for.Goals as goal

pub returns-then-places-lt32 : goal.returns-then-places-lt32
returns-then-places-lt32 c = small_reply c.args.file.now c.args.places c.if-places-lt32.true

pub cut_file-requires : goal.cut_file-requires
cut_file-requires c = (indexing_well_formed c.args.file.now c.in_ok-ix.ix c.in_ok-ix.ensures, c.requires)

pub returns : goal.returns
returns c = c.cut_file.ensures ∙ index_reply c.args.file.now c.args.places c.in_ok-ix.ix c.if-places-lt32.false c.in_ok-ix.ensures

pub returns-in_err-ix : goal.returns-in_err-ix
returns-in_err-ix c =
    let a = c.args in
    refused_reply_lem a.file.now a.places c.in_err-ix.field-0.0 c.from_residual.result a.cells.now a.marks.now a.counts.now
    c.if-places-lt32.false c.in_err-ix.ensures c.from_residual.ensures.1
