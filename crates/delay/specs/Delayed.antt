-- Waits and resets on the code's records: on one matrix, and on each zone of a list.
use Rattle.std.specs.Prelude.{List, [], ◌∷◌, Bool, cond, ℕ, zero, suc, ◌+◌, ◌*◌, ◌/◌, ◌%◌, ltb, eqb, get_or, set}
use Rattle.expr.specs.Records.{none_bound, zero_bound}
use Rattle.expr.specs.declared.bound.Bound.{Bound}
use Rattle.zones.specs.declared.zone.Zone.{Zone}
use Rattle.zones.specs.declared.zone.Zones.{Zones}
use Rattle.parts.specs.Parts.{with_bounds}

-- ---- one matrix, five rows of five
abbrev pub none_if : Bool → ℕ → List Bound → List Bound
none_if t x m = cond t (set m x none_bound) m

-- a wait: entries (i, 0), i ≥ 1, of the clocks become none
unfoldable pub delayed_b : ℕ → List Bound → List Bound
delayed_b w m = none_if (ltb 3 w) 20 (none_if (ltb 2 w) 15 (none_if (ltb 1 w) 10 (none_if (ltb 0 w) 5 m)))

-- entry x copied to y
abbrev pub move_b : ℕ → ℕ → List Bound → List Bound
move_b x y m = set m y (get_or m x zero_bound)

-- where clock r is reset, (r, j) takes (0, j) and (j, r) takes (j, 0), for another clock j that there is
unfoldable pub reset_pair : ℕ → ℕ → ℕ → List Bound → List Bound
reset_pair w r j m =
    cond (ltb w j) m
    (cond (eqb j r) m
    (let a = set m (5 * r + j) (get_or m j zero_bound) in
    set a (5 * j + r) (get_or a (5 * j) zero_bound)))

unfoldable pub reset_b : ℕ → ℕ → List Bound → List Bound
reset_b w r m = reset_pair w r 4 (reset_pair w r 3 (reset_pair w r 2 (reset_pair w r 1 (reset_pair w r 0 m))))

-- clock r is reset if its bit is set and there is such a clock
unfoldable pub reset_if_b : ℕ → ℕ → ℕ → List Bound → List Bound
reset_if_b w r bit m = cond (eqb bit 1) (cond (ltb w r) m (reset_b w r m)) m

-- resets in rising order: bit i - 1 for clock i
unfoldable pub resets_b : ℕ → ℕ → List Bound → List Bound
resets_b w bits m =
    reset_if_b w 4 (bits / 8 % 2) (reset_if_b w 3 (bits / 4 % 2) (reset_if_b w 2 (bits / 2 % 2) (reset_if_b w 1 (bits % 2) m)))

-- ---- zones in order
-- the first n of a list changed
unfoldable pub on_first : (Zone → Zone) → ℕ → List Zone → List Zone
on_first f zero l = l
on_first f (suc n) [] = []
on_first f (suc n) (z ∷ l) = f z ∷ on_first f n l

abbrev pub delayed_zone : ℕ → Zone → Zone
delayed_zone w z = with_bounds z (delayed_b w z.bounds)

abbrev pub resets_zone : ℕ → ℕ → Zone → Zone
resets_zone w bits z = with_bounds z (resets_b w bits z.bounds)

unfoldable pub delayed_all : ℕ → Zones → Zones
delayed_all w zs = record {
  refusal = zs.refusal;
  visit = zs.visit;
  count = zs.count;
  list = on_first (delayed_zone w) zs.count zs.list;
}

unfoldable pub resets_all : ℕ → ℕ → Zones → Zones
resets_all w bits zs = record {
  refusal = zs.refusal;
  visit = zs.visit;
  count = zs.count;
  list = on_first (resets_zone w bits) zs.count zs.list;
}
