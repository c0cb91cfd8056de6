-- The whole file (paper 01, "The sheet file", rows 2 to 5 of "When no piece is given", and row 16 of paper 02, request (i)): checked 2, 3,
-- 4, 16, 5 in order, the whole file for each.
use Rattle.std.specs.Prelude.{◌≡◌, ◌⊎◌, ℕ, ◌+◌, List, cond, leb, length, replicate, is_ok}
use Rattle.std.specs.declared.result.Result.{Result}
use Rattle.std.specs.declared.result.Result.TheVariants.{Ok, Err}
use Rattle.answers.specs.Numbers.{numbered, refusal_as}
use Rattle.answers.specs.declared.Numbered.{Numbered}
use Rattle.answers.specs.declared.file.Refusal.{Refusal}
use Rattle.contents.specs.declared.Contents.{Contents}
use Rattle.cursor.specs.Cursor.{advanced}
use Rattle.contents.specs.Contents.{sized, most_parameters, contents_of}
use Rattle.sheet.specs.declared.Sheet.{Sheet}
use Rattle.reading.specs.declared.SheetAt.{SheetAt}
use Rattle.expr.specs.Records.{range_list, zero_ranges}
use Rattle.parameters.specs.Parameters.{parameters_at}
use Rattle.automaton.specs.Automaton.{locations_at, transitions_at, blank_locations, blank_transitions}
use Rattle.route.specs.Route.{route_at, links_of, broken_at}
use Rattle.valuations.specs.Valuations.{widths}
use Rattle.sheet.specs.WellFormed.{MOST_VALUATIONS}

-- a sheet with nothing but zeros
unfoldable pub blank_sheet : Sheet
blank_sheet =
    record {
      version = 0;
      parameters = 0;
      ranges = zero_ranges;
      clocks = 0;
      locations = 0;
      location = blank_locations;
      transitions = 0;
      transition = blank_transitions;
      moves = 0;
      route = replicate 32 0;
    }

-- what reading a file gives, in the paper's numbers: 0 and the sheet, or the refusal and a blank sheet
pub record Read : Type 0 where
  pub answer : Numbered
  pub sheet : Sheet

-- what the code answers
abbrev pub read_as : Result Sheet Refusal → Read
read_as (Ok sheet) = record { answer = numbered 0 0; sheet = sheet }
read_as (Err r) = record { answer = refusal_as r; sheet = blank_sheet }

-- refused by a number at a place
unfoldable pub refused_by : ℕ → ℕ → Read
refused_by n at = record { answer = numbered n at; sheet = blank_sheet }

-- the four bodies, one after another: body 1 from byte 22 to its end, and so on; body 4 to the file's end
unfoldable pub bodies_of : List ℕ → Contents → SheetAt
bodies_of s contents =
    let most = most_parameters contents.version in
    let one = parameters_at s contents.first most (advanced 22 0) in
    let two = locations_at s contents.second most one.count one.cursor in
    let three = transitions_at s contents.third most one.count two.clocks two.count two.cursor in
    let four = route_at s (length s) three.count three.cursor in
    record {
      cursor = four.cursor;
      sheet =
          record {
            version = contents.version;
            parameters = one.count;
            ranges = one.ranges;
            clocks = two.clocks;
            locations = two.count;
            location = two.list;
            transitions = three.count;
            transition = three.list;
            moves = four.count;
            route = four.list;
          };
    }

-- refusal 5, where body 4 starts at `third`: route byte i is at third + 1 + i; else the sheet
unfoldable pub judged_route : ℕ → Sheet → Read
judged_route third sheet =
    let link = links_of sheet.transition sheet.route sheet.moves in
    cond (is_ok link) (record { answer = numbered 0 0; sheet = sheet }) (refused_by 5 (third + 1 + broken_at link))

-- refusal 16, where the ranges have more than 262,144 valuations, else what follows it
unfoldable pub judged_widths : ℕ → Sheet → Read
judged_widths third sheet = cond (leb (widths (range_list sheet.ranges)) MOST_VALUATIONS) (judged_route third sheet) (refused_by 16 0)

-- refusal 4, else what follows it
unfoldable pub judged_bodies : ℕ → SheetAt → Read
judged_bodies third bodies = cond bodies.cursor.ok (judged_widths third bodies.sheet) (refused_by 4 bodies.cursor.at)

-- what reading a file gives: refusal 2, 3, 4, 16 or 5, the first that there is ground for; else the sheet
unfoldable pub read_of : List ℕ → Read
read_of s =
    cond (sized s)
    (cond (contents_of s).cursor.ok
    (judged_bodies (contents_of s).third (bodies_of s (contents_of s)))
    (refused_by 3 (contents_of s).cursor.at))
    (refused_by 2 0)

-- a file that is not refused
abbrev pub Fine : Read → Type 0
Fine x = x.answer.number ≡ 0

-- the refusals of a file
abbrev pub OfFile : ℕ → Type 0
OfFile n = (n ≡ 2) ⊎ (n ≡ 3) ⊎ (n ≡ 4) ⊎ (n ≡ 16) ⊎ (n ≡ 5)
