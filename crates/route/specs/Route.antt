-- The route (paper 01, "The sheet file", Body 4), a list of transition numbers, and refusal 5 ("When no piece is given"): the first
-- move is not from location 0 (paper: stage 0), or a move is not from where the last arrived.
use Rattle.std.specs.Prelude.{ℕ, zero, suc, List, cond, get_or, set, replicate, ltb, eqb}
use Rattle.std.specs.declared.result.Result.{Result}
use Rattle.std.specs.declared.result.Result.TheVariants.{Ok, Err}
use Rattle.cursor.specs.declared.Cursor.{Cursor}
use Rattle.cursor.specs.Cursor.{byte_field, below_field, finished, iterate}
use Rattle.automaton.specs.declared.Transition.{Transition}
use Rattle.automaton.specs.Automaton.{no_transition}
use Rattle.route.specs.declared.RouteAt.{RouteAt}
use Rattle.route.specs.declared.Ends.{Ends}

-- Body 4: count of the route's moves, 0 to 32; their transitions' numbers, each below the count of transitions

-- route byte i, where the count has it
unfoldable pub route_step : List ℕ → ℕ → ℕ → ℕ → RouteAt → RouteAt
route_step s end transitions i all =
    let number = below_field s end transitions all.cursor in
    cond (ltb i all.count) (record { cursor = number; count = all.count; list = set all.list i number.byte }) all

-- its fields: the count, then the numbers
unfoldable pub route_read : List ℕ → ℕ → ℕ → Cursor → RouteAt
route_read s end transitions cursor =
    let count = byte_field s end 0 32 cursor in
    iterate (route_step s end transitions) (record { cursor = count; count = count.byte; list = replicate 32 0 }) 32

-- the body: its fields, then its end
unfoldable pub route_at : List ℕ → ℕ → ℕ → Cursor → RouteAt
route_at s end transitions cursor =
    let all = route_read s end transitions cursor in
    record { cursor = finished end all.cursor; count = all.count; list = all.list }

-- Refusal 5

-- from and to of the transition with this number
unfoldable pub ends_at : List Transition → ℕ → Ends
ends_at transition number = record { from = (get_or transition number no_transition).from; to = (get_or transition number no_transition).to }

-- route move i, where the count has it: it must be from where the route has arrived, and then it has arrived where that goes.
-- Else it is the index of the first move that is not so, and stays so
unfoldable pub link_step : List Transition → List ℕ → ℕ → ℕ → Result ℕ ℕ → Result ℕ ℕ
link_step transition route moves i (Ok location) =
    let ends = ends_at transition (get_or route i 0) in
    cond (ltb i moves) (cond (eqb ends.from location) (Ok ends.to) (Err i)) (Ok location)
link_step transition route moves i (Err index) = Err index

-- the whole route, from location 0
unfoldable pub links_of : List Transition → List ℕ → ℕ → Result ℕ ℕ
links_of transition route moves = iterate (link_step transition route moves) (Ok 0) 32

-- the index of the first move that is not from where the last arrived; 0 where there is none
abbrev pub broken_at : Result ℕ ℕ → ℕ
broken_at (Ok location) = 0
broken_at (Err index) = index

-- where the route has arrived before its move k: in location 0 at first, then where the move before k goes
unfoldable pub arrived_at : List Transition → List ℕ → ℕ → ℕ
arrived_at transition route zero = 0
arrived_at transition route (suc k) = (get_or transition (get_or route k 0) no_transition).to
