-- The index of a file: the same bodies in the same order as in `File`, of whose locations and transitions the places are kept.
use Rattle.std.specs.Prelude.{ℕ, List, length}
use Rattle.std.specs.declared.result.Result.{Result}
use Rattle.std.specs.declared.result.Result.TheVariants.{Ok, Err}
use Rattle.answers.specs.Numbers.{numbered, refusal_as}
use Rattle.answers.specs.declared.file.Refusal.{Refusal}
use Rattle.contents.specs.declared.Contents.{Contents}
use Rattle.contents.specs.Contents.{most_parameters}
use Rattle.cursor.specs.Cursor.{advanced}
use Rattle.parameters.specs.Parameters.{parameters_at}
use Rattle.route.specs.Route.{route_at}
use Rattle.index.specs.declared.Index.{Index}
use Rattle.index.specs.SheetIn.{sheet_in}
use Rattle.places.specs.Places.{location_places, transition_places}
use Rattle.reading.specs.declared.SheetAt.{SheetAt}
use Rattle.indexing.specs.declared.IndexAt.{IndexAt}
use Rattle.reading.specs.File.{Read, blank_sheet}

-- what the code answers, with the sheet that the index stands for
abbrev pub indexed_as : List ℕ → Result Index Refusal → Read
indexed_as s (Ok ix) = record { answer = numbered 0 0; sheet = sheet_in s ix }
indexed_as s (Err r) = record { answer = refusal_as r; sheet = blank_sheet }

-- the four bodies, one after another
unfoldable pub index_of : List ℕ → Contents → IndexAt
index_of s contents =
    let most = most_parameters contents.version in
    let one = parameters_at s contents.first most (advanced 22 0) in
    let two = location_places s contents.second most one.count one.cursor in
    let three = transition_places s contents.third most one.count two.clocks two.count two.cursor in
    let four = route_at s (length s) three.count three.cursor in
    record {
      cursor = four.cursor;
      index =
          record {
            version = contents.version;
            parameters = one.count;
            clocks = two.clocks;
            locations = two.count;
            transitions = three.count;
            moves = four.count;
            second = contents.second;
            third = contents.third;
            ranges = one.ranges;
            location = two.list;
            transition = three.list;
            route = four.list;
          };
    }

-- the sheet that the bodies' index stands for
abbrev pub sheet_at : List ℕ → IndexAt → SheetAt
sheet_at s bodies = record { cursor = bodies.cursor; sheet = sheet_in s bodies.index }
