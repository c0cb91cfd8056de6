-- Body 1 (paper 01, "The sheet file"): a count of parameters (paper: allowances), 0 to 3, or to 4 in version 2; for each, lowest and
-- highest. It is read from where the contents ended up to its own end; bytes left over there are wrong at the first of them (`finished`).
use Rattle.std.specs.Prelude.{ℕ, ◌-◌, List, Bool, cond, ◌&&◌, ltb, leb, set, replicate}
use Rattle.expr.specs.Records.{PARAMETERS, blank_range}
use Rattle.expr.specs.declared.range.Range.{Range}
use Rattle.cursor.specs.declared.Cursor.{Cursor}
use Rattle.cursor.specs.Cursor.{judged, byte_field, number_field, signed_of, finished, iterate}
use Rattle.parameters.specs.declared.ParametersAt.{ParametersAt}

-- lowest and highest of one parameter
unfoldable pub range_of : ℕ → ℕ → Range
range_of low high = record { low = signed_of low; high = signed_of high }

-- lowest ≤ highest, difference ≤ 63
unfoldable pub highest_right : ℕ → ℕ → Bool
highest_right low high = leb low high && leb (high - low) 63

-- highest, after lowest: -1,000 to 1,000, and the two rules above are judged here
unfoldable pub highest_field : List ℕ → ℕ → Cursor → Cursor
highest_field s end low = judged low (number_field s end low) (highest_right low.word (number_field s end low).word)

-- the range of parameter i, where the count has it
unfoldable pub range_step : List ℕ → ℕ → ℕ → ParametersAt → ParametersAt
range_step s end i all =
    let low = number_field s end all.cursor in
    let high = highest_field s end low in
    cond (ltb i all.count)
    (record {
      cursor = high;
      count = all.count;
      ranges = record { list = set all.ranges.list i (range_of low.word high.word) };
    })
    all

-- before any range is read: 0 to 0 for each
unfoldable pub blank_ranges : List Range
blank_ranges = replicate PARAMETERS blank_range

-- its fields: the count, at most `most`, then the ranges of as many parameters, in order
unfoldable pub parameters_read : List ℕ → ℕ → ℕ → Cursor → ParametersAt
parameters_read s end most cursor =
    let count = byte_field s end 0 most cursor in
    iterate (range_step s end) (record { cursor = count; count = count.byte; ranges = record { list = blank_ranges } }) PARAMETERS

-- the body: its fields, then its end
unfoldable pub parameters_at : List ℕ → ℕ → ℕ → Cursor → ParametersAt
parameters_at s end most cursor =
    let all = parameters_read s end most cursor in
    record { cursor = finished end all.cursor; count = all.count; ranges = all.ranges }
