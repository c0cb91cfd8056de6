-- What Windows answers on the first n places of a table, and the table then.
use Rattle.std.specs.Prelude.{List, ◌++◌, ℕ, drop}
use Rattle.windows_reply.specs.Reply.{Answered, answered_as, answered_of, reply_of}
use Rattle.pieces.specs.Pieces.{table_of}
use Rattle.pieces.specs.declared.Piece.{Piece}
use Rattle.tabled.specs.declared.Reply.{Reply}

pub record Tabled : Type 0 where
  pub answered : Answered
  pub table : List Piece

-- the code's record of it
abbrev pub tabled_as : Reply → Tabled
tabled_as r = record { answered = answered_as r.answer; table = r.table }

-- the other places are as they were
unfoldable pub windows_on : List ℕ → List Piece → ℕ → Tabled
windows_on file table n = record { answered = answered_of (reply_of file n); table = table_of (reply_of file n) n ++ drop n table }
