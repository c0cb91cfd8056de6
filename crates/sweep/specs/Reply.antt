-- What Sweep replies, for every file and every valuation (paper 01, rows 2 to 6 of "When no piece is given", and "Runs"), in the
-- paper's numbers: refused by 2 to 4, 16 or 5, the whole file for each; else by 6; else 1, void, or 0, a run, with the matrix of
-- tightest bounds. With a refusal or void every entry is zero, not strict.
use Rattle.std.specs.Prelude.{List, [], ◌∷◌, Bool, cond, ◌&&◌, ℕ, suc, eqb, ℤ, replicate}
use Rattle.std.proofs.Math.Option.{Option, none, some}
use Rattle.std.specs.Int.Signed.{le_z}
use Rattle.answers.specs.Numbers.{numbered, sweep_as}
use Rattle.answers.specs.declared.Numbered.{Numbered}
use Rattle.dbm.specs.Matrix.{Outcome, void, kept}
use Rattle.expr.specs.Records.{range_list}
use Rattle.expr.specs.declared.range.Range.{Range}
use Rattle.weight.specs.declared.Weight.{Weight}
use Rattle.reading.specs.File.{Read, read_of}
use Rattle.sheet.specs.declared.Sheet.{Sheet}
use Rattle.weight_matrix.specs.Records.{row, zero_row}
use Rattle.concrete.specs.Walk.{sweep_at}
use Rattle.sweep.specs.declared.reply.Reply.{Reply}
use Rattle.sweep.specs.declared.reply.Row.{Row}

-- a reply: the answer's number and place, and the rows of the matrix
pub record SweepReply : Type 0 where
  pub answer : Numbered
  pub rows : List Row

abbrev pub row_record : List Weight → Row
row_record entries = record { entries = entries }

-- five rows of zero, not strict
abbrev pub zero_rows : List Row
zero_rows = replicate 5 (row_record zero_row)

abbrev pub reply_as : Reply → SweepReply
reply_as r = record { answer = sweep_as r.answer; rows = r.rows }

-- an answer without a matrix
unfoldable pub blank_reply : Numbered → SweepReply
blank_reply a = record { answer = a; rows = zero_rows }

-- void, or the matrix, five rows of five
unfoldable pub swept : Outcome → SweepReply
swept void = blank_reply (numbered 1 0)
swept (kept m) =
    record {
      answer = numbered 0 0;
      rows = row_record (row m 0) ∷ row_record (row m 1) ∷ row_record (row m 2) ∷ row_record (row m 3) ∷ row_record (row m 4) ∷ [];
    }

-- a number lies in a parameter's range; that of a parameter which the sheet lacks is 0 to 0
abbrev pub in_range : Range → ℤ → Bool
in_range range x = le_z range.low x && le_z x range.high

-- the index of the first parameter outside its range, counted from k on; a range without a number, or a number without a range, is outside
unfoldable pub outside : ℕ → List Range → List ℤ → Option ℕ
outside k [] [] = none
outside k [] (x ∷ v) = some k
outside k (r ∷ rs) [] = some k
outside k (r ∷ rs) (x ∷ v) = cond (in_range r x) (outside (suc k) rs v) (some k)

-- refusal 6 at a parameter, else what is swept
abbrev pub or_outside : SweepReply → Option ℕ → SweepReply
or_outside reply none = reply
or_outside reply (some k) = blank_reply (numbered 6 k)

-- refusal 6, else the sweep
unfoldable pub sheet_reply : Sheet → List ℤ → SweepReply
sheet_reply s v = or_outside (swept (sweep_at s v)) (outside 0 (range_list s.ranges) v)

-- refusals 2 to 5 and 16, else what follows them
unfoldable pub read_reply : Read → List ℤ → SweepReply
read_reply r v = cond (eqb r.answer.number 0) (sheet_reply r.sheet v) (blank_reply r.answer)

-- the whole reply
unfoldable pub reply_of : List ℕ → List ℤ → SweepReply
reply_of file v = read_reply (read_of file) v
