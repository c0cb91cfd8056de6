-- What the code replies, with its matrix as a table.
use Rattle.std.specs.Prelude.{List, [], ◌∷◌, cond, ℕ, ℤ}
use Rattle.std.proofs.Math.Option.{Option, none, some}
use Rattle.std.specs.declared.result.Result.{Result}
use Rattle.std.specs.declared.result.Result.TheVariants.{Ok, Err}
use Rattle.answers.specs.Numbers.{numbered}
use Rattle.answers.specs.declared.sweep.Refused.{Refused}
use Rattle.answers.specs.declared.sweep.Refused.TheVariants.{Outside}
use Rattle.expr.specs.Records.{range_list, valuation_of}
use Rattle.expr.specs.declared.number.Valuation.{Valuation}
use Rattle.expr.specs.declared.range.Range.{Range}
use Rattle.sheet.specs.declared.Sheet.{Sheet}
use Rattle.sweep.specs.Reply.{SweepReply, row_record, blank_reply, outside, or_outside}
use Rattle.weight_matrix.specs.Tables.{Table, row_of, is_void}
use Rattle.walk.specs.Walked.{sweep_table}

-- a valuation in the ranges, or the first parameter outside
abbrev pub placed_by : List ℤ → Option ℕ → Result Valuation Refused
placed_by v none = Ok (valuation_of v)
placed_by v (some k) = Err (Outside k)

unfoldable pub placed_of : List Range → List ℤ → Result Valuation Refused
placed_of rs v = placed_by v (outside 0 rs v)

-- void, or the matrix
unfoldable pub swept_table : Table → SweepReply
swept_table m =
    cond (is_void m) (blank_reply (numbered 1 0))
    (record {
      answer = numbered 0 0;
      rows = row_record (row_of m 0) ∷ row_record (row_of m 1) ∷ row_record (row_of m 2) ∷ row_record (row_of m 3) ∷ row_record (row_of m 4) ∷ [];
    })

-- refusal 6, or the sweep
unfoldable pub sheet_table : Sheet → List ℤ → SweepReply
sheet_table s v = or_outside (swept_table (sweep_table s v)) (outside 0 (range_list s.ranges) v)
