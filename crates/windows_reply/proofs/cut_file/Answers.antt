-- An accepted sheet has few valuations, and what the code lists is the cutting.
use mathlib.Core.Path.{◌∙◌}
use Rattle.index.specs.SheetIn.{sheet_in}
use Rattle.windows_route.specs.Ended.{cells_length, counts_length}
use Rattle.windows_reply.specs.Coded.{work_coded}
use Rattle.windows_reply.proofs.cut_file.Goals as goal

pub listed-requires : goal.listed-requires
unfolding sheet_in
listed-requires c = (
  c.requires.0.few_valuations,
  (c.walk-end.auto.cells ∙ cells_length c.requires.1, c.walk-end.auto.counts ∙ counts_length c.requires.1),
)

pub returns : goal.returns
unfolding sheet_in
returns c =
    let a = c.args in
    c.listed.ensures ∙ work_coded (sheet_in a.file.now a.ix) c.requires.0 _ c.walk-end.ensures
