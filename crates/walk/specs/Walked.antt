-- What the code does along a route, step by step, with its matrices as lists of rows. CodedWalk says that this is concrete/Walk.
use Rattle.std.specs.Prelude.{List, [], ◌∷◌, ℕ, ℤ, take}
use Rattle.automaton.specs.declared.Location.{Location}
use Rattle.automaton.specs.declared.Transition.{Transition}
use Rattle.expr.specs.Bounds.{at_v}
use Rattle.weight.specs.Records.{weight_of}
use Rattle.expr.specs.Records.{bound_as}
use Rattle.guards.specs.declared.Guard.{Guard}
use Rattle.sheet.specs.Lookup.{location_c, transition_c}
use Rattle.sheet.specs.declared.Sheet.{Sheet}
use Rattle.weight_matrix.specs.Tables.{Table, start_table, guarded_table, delayed_table, resets_table}

-- a guard with v put in
unfoldable pub guard_table : Table → ℕ → List ℤ → Guard → Table
guard_table m clocks v g = guarded_table m clocks g.left g.right (weight_of (at_v v (bound_as g.bound)))

-- guards in file order
unfoldable pub guards_table : Table → ℕ → List ℤ → List Guard → Table
guards_table m clocks v [] = m
guards_table m clocks v (g ∷ gs) = guards_table (guard_table m clocks v g) clocks v gs

-- a location's invariants
abbrev pub invariants_table : Table → ℕ → List ℤ → Location → Table
invariants_table m clocks v here = guards_table m clocks v (take here.count here.guards)

-- a stay: a wait, then the invariants
unfoldable pub stay_table : Table → ℕ → List ℤ → Location → Table
stay_table m clocks v here = invariants_table (delayed_table m clocks) clocks v here

-- a transition: its guards, its resets, and the invariants of the location that it goes to
unfoldable pub move_table : Table → ℕ → List ℤ → Transition → Location → Table
move_table m clocks v t there =
    invariants_table (resets_table (guards_table m clocks v (take t.count t.guards)) clocks t.resets) clocks v there

-- from location l along the rest of a route
unfoldable pub walk_table : Sheet → List ℤ → ℕ → List ℕ → Table → Table
walk_table s v l [] m = stay_table m s.clocks v (location_c s l)
walk_table s v l (n ∷ ns) m =
    walk_table s v (transition_c s n).to ns
    (move_table (stay_table m s.clocks v (location_c s l)) s.clocks v (transition_c s n) (location_c s (transition_c s n).to))

-- the start: all entries zero, not strict, after the invariants of location 0
unfoldable pub started_table : Sheet → List ℤ → Table
started_table s v = invariants_table start_table s.clocks v (location_c s 0)

-- the whole route
unfoldable pub sweep_table : Sheet → List ℤ → Table
sweep_table s v = walk_table s v 0 (take s.moves s.route) (started_table s v)
