-- An answer of Windows as one number: how many pieces, or minus the refusal's number.
use Rattle.std.specs.Prelude.{cond, eqb, ℤ, pos, neg_ℤ}
use Rattle.windows_reply.specs.Reply.{Answered}

abbrev pub count_of : Answered → ℤ
count_of a = cond (eqb a.answer.number 0) (pos a.counts.pieces) (neg_ℤ (pos a.answer.number))
