-- The whole route, on the code's records: stays and transitions, their guards in file order.
use Rattle.std.specs.Prelude.{List, [], ◌∷◌, ℕ, suc, set, take, replicate}
use Rattle.expr.specs.Records.{zero_bound, zero_expr}
use Rattle.expr.specs.declared.range.Ranges.{Ranges}
use Rattle.guards.specs.declared.Guard.{Guard}
use Rattle.automaton.specs.declared.Location.{Location}
use Rattle.automaton.specs.declared.Transition.{Transition}
use Rattle.sheet.specs.declared.Sheet.{Sheet}
use Rattle.sheet.specs.Lookup.{location_c, transition_c}
use Rattle.zones.specs.Zone.{blank_zone}
use Rattle.zones.specs.declared.zone.Zones.{Zones}
use Rattle.split.specs.Guarded.{guarded_c}
use Rattle.delay.specs.Delayed.{delayed_all, resets_all}
use Rattle.steps.specs.Steps.{at_visit}

-- guards in file order
unfoldable pub guards_all : Ranges → ℕ → List Guard → Zones → Zones
guards_all b w [] zs = zs
guards_all b w (g ∷ gs) zs = guards_all b w gs (guarded_c b w g zs)

-- a location's invariants
abbrev pub invariants_all : Ranges → ℕ → Location → Zones → Zones
invariants_all b w here zs = guards_all b w (take here.count here.guards) zs

-- a stay: a wait, then the location's invariants
unfoldable pub stay_all : Ranges → ℕ → Location → Zones → Zones
stay_all b w here zs = invariants_all b w here (delayed_all w zs)

-- a transition: its guards, which belong to the visit before it; its resets, with which the move is made; and the invariants of the
-- location that it goes to
unfoldable pub move_all : Ranges → ℕ → ℕ → Transition → Location → Zones → Zones
move_all b w visit t there zs =
    invariants_all b w there (at_visit (suc visit) (resets_all w t.resets (guards_all b w (take t.count t.guards) zs)))

-- from location l along the rest of a route
unfoldable pub walk_all : Sheet → ℕ → ℕ → List ℕ → Zones → Zones
walk_all s visit l [] zs = stay_all s.ranges s.clocks (location_c s l) zs
walk_all s visit l (n ∷ ns) zs =
    walk_all s (suc visit) (transition_c s n).to ns
    (move_all s.ranges s.clocks visit (transition_c s n) (location_c s (transition_c s n).to)
    (stay_all s.ranges s.clocks (location_c s l) zs))

-- one zone without inequalities, all entries zero, not strict
unfoldable pub start_all : Zones
start_all =
    record {
      refusal = 0;
      visit = 0;
      count = 1;
      list = set (replicate 32 blank_zone) 0
          (record { count = 0; ineqs = replicate 24 zero_expr; bounds = replicate 25 zero_bound });
    }

-- the start: that zone after the invariants of location 0
unfoldable pub started_all : Sheet → Zones
started_all s = invariants_all s.ranges s.clocks (location_c s 0) start_all

-- the whole route
unfoldable pub zones_all : Sheet → Zones
zones_all s = walk_all s 0 0 (take s.moves s.route) (started_all s)
