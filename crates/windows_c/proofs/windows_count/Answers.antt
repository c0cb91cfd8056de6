-- `windows_c::windows_count` counts the answer of Windows on a table of which 32 places are lent.
-- Assumes nothing.
use mathlib.Core.Path.{sym, ◌∙◌, ap, subst}
use Prim.Native.Nat.{◌≤◌}
use borrow.Author.Rules.{rules}
use mir.Syntax.{w64}
use mir.ValLaws.{to_z-of_z}
use Rattle.tabled.specs.On.{Tabled, windows_on}
use Rattle.windows_c.specs.Count.{count_of}
use Rattle.windows_c.proofs.Few.{reply_few}
use Rattle.windows_c.proofs.windows_count.Goals as goal

pub count-requires : goal.count-requires
unfolding windows_on
count-requires c = subst (λ (r : Tabled). r.answered.counts.pieces ≤ 32) (sym c.windows-reply.ensures)
    (reply_few c.args.file.now 32)

pub returns : goal.returns
unfolding windows_on
returns c = to_z-of_z w64 c.count.result (search rules) ∙ c.count.ensures
    ∙ ap (λ (r : Tabled). count_of r.answered) c.windows-reply.ensures
