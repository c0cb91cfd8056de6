-- Sweep's answer, by its number.
use Rattle.answers.specs.declared.Numbered.{Numbered}
use Rattle.sweep.specs.Reply.{SweepReply}
use borrow.Author.Rules.{rules}
use lib.IntN.{pos}
use mathlib.Core.Path.{ap, ◌∙◌}
use mir.Syntax.{w64}
use mir.ValLaws.{to_z-of_z}
use Rattle.sweep_c.proofs.Numbers.{fits, same_reply}
use Rattle.sweep_c.proofs.sweep_sheet.Goals as goal

pub signed-requires : goal.signed-requires
signed-requires c = fits _ c.sweep-reply.result.answer c.numbered.ensures

pub returns : goal.returns
returns c =
    let s = c.before.before.before.before in
    to_z-of_z w64 c.signed.result (search rules)
    ∙ c.signed.ensures
    ∙ ap pos
    (ap (λ (n : Numbered). n.number) c.numbered.ensures
    ∙ ap (λ (x : SweepReply). x.answer.number)
    (c.sweep-reply.ensures
    ∙ same_reply s.args.sheet.now (to_z-of_z w64 _ s.ranges.p1) (to_z-of_z w64 _ s.ranges.p2) (to_z-of_z w64 _ s.ranges.p3)
    (to_z-of_z w64 _ s.ranges.p4)))
