-- The first n places are lent; the others are as they were.
use mathlib.Core.Path.{◌≡◌, ap, ◌∙◌}
use mathlib.Core.List.{List, ◌++◌}
use Prim.Native.Nat.{ℕ}
use native.Mathlib.Omega.{arith}
use borrow.Author.Rules.{rules}
use lib.ListN.{length, take, length-take}
use Rattle.std.specs.declared.result.Result.{Result}
use Rattle.answers.specs.declared.windows.Counts.{Counts}
use Rattle.answers.specs.declared.windows.Refused.{Refused}
use Rattle.windows_reply.specs.Reply.{Answered, answered_as, answered_of, reply_of}
use Rattle.pieces.specs.Pieces.{table_of}
use Rattle.pieces.specs.declared.Piece.{Piece}
use Rattle.tabled.specs.On.{tabled_as, windows_on}
use Rattle.tabled.proofs.on_first.Goals as goal

tabled_is : (r : Result Counts Refused) (t u y : List Piece) (x : Answered) → answered_as r ≡ x → t ≡ y
    → tabled_as (record { answer = r; table = t ++ u }) ≡ record { answered = x; table = y ++ u }
tabled_is r t u y x e f =
    ap (λ (z : Answered). record { answered = z; table = t ++ u }) e
    ∙ ap (λ (z : List Piece). record { answered = x; table = z ++ u }) f

pub returns : goal.returns
unfolding windows_on
returns c =
    let a = c.args in
    let w = c.windows-answer in
    let long : length a.table ≡ 40 = search rules in
    let few : length (take a.n a.table) ≡ a.n = simp length-take (omega arith) in
    tabled_is _ _ _ _ _
    (w.ensures.result_value ∙ ap (λ (m : ℕ). answered_of (reply_of a.file.now m)) few)
    (w.ensures.table_after ∙ ap (λ (m : ℕ). table_of (reply_of a.file.now m) m) few)
