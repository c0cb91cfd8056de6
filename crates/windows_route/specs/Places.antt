-- The zones and parts that stand in cells: zones at 0 to 31, spared ones at 32 to 63, the stack of parts at 64 to 88, and at 89 the zone
-- that they are parts of.
use Rattle.std.specs.Prelude.{◌≡◌, List, [], ◌∷◌, ℤ, pos, length, get_or, replicate}
use Rattle.std.proofs.Math.Path.{refl, ap}
use Rattle.std.proofs.Common.{◌∙◌, arith}
use Prim.Native.Nat.{ℕ, zero, suc, ◌+◌, ◌*◌, ◌%◌, ◌<◌}
use Rattle.std.proofs.Math.Dec.{ltb, eqb}
use Rattle.cells.specs.Cells.{Cell, no_cell, row_at, rows_from, bound_on, bounds_from, cell_at, cells_in, zone_of}
use Rattle.cells.specs.CellLaws.{cells_at}
use Rattle.expr.specs.Records.{no_expr, zero_expr, zero_bound}
use Rattle.inequalities.specs.Flat.{expr_at}
use Rattle.parts.specs.declared.part.Halt.TheVariants as stops
use Rattle.parts.specs.declared.part.Part.{Part}
use Rattle.running.specs.Tasks.{part_with}
use Rattle.running.specs.declared.task.Task.{Task}
use Rattle.split.specs.Stack.{no_part, load, weight}
use Rattle.steps.specs.Steps.{no_zone}
use Rattle.zones.specs.Zone.{blank_zone}
use Rattle.zones.specs.declared.zone.Zone.{Zone}

-- what is read past the end of a list of tasks
abbrev pub no_task : Task
no_task = record { phase = 0; halt = stops.No; tests = 0; test = no_expr }

-- the zone at place x
abbrev pub zone_in : List ℕ → List Cell → ℕ → Zone
zone_in ns cs x = zone_of (get_or ns x 0) (get_or cs x no_cell)

-- the part that is number d of the stack
abbrev pub part_at_place : List Task → List ℕ → List Cell → ℕ → Part
part_at_place ts ns cs d = part_with (get_or ts d no_task) (zone_in ns cs (64 + d))

unfoldable pub zones_from : List ℕ → List Cell → ℕ → ℕ → List Zone
zones_from ns cs p zero = []
zones_from ns cs p (suc n) = zone_in ns cs p ∷ zones_from ns cs (suc p) n

-- the list of zones
abbrev pub list_of : List ℕ → List Cell → List Zone
list_of ns cs = zones_from ns cs 0 32

unfoldable pub parts_from : List Task → List ℕ → List Cell → ℕ → ℕ → List Part
parts_from ts ns cs d zero = []
parts_from ts ns cs d (suc n) = part_at_place ts ns cs d ∷ parts_from ts ns cs (suc d) n

-- the stack of parts
abbrev pub stack_of : List Task → List ℕ → List Cell → List Part
stack_of ts ns cs = parts_from ts ns cs 0 25

-- ---- laws
zones_length : (ns : List ℕ) (cs : List Cell) (n p : ℕ) → length (zones_from ns cs p n) ≡ n
unfolding zones_from
zones_length ns cs zero p = refl
zones_length ns cs (suc n) p = ap suc (zones_length ns cs n (suc p))

zones_at_lem : (ns : List ℕ) (cs : List Cell) (n p x : ℕ) → x < n → get_or (zones_from ns cs p n) x no_zone ≡ zone_in ns cs (p + x)
unfolding zones_from
zones_at_lem ns cs zero p x h = absurd (omega arith)
zones_at_lem ns cs (suc n) p zero h = ap (zone_in ns cs) (omega arith)
zones_at_lem ns cs (suc n) p (suc x) h = zones_at_lem ns cs n (suc p) x (omega arith) ∙ ap (zone_in ns cs) (omega arith)

pub list_long : (ns : List ℕ) (cs : List Cell) → length (list_of ns cs) ≡ 32
list_long ns cs = zones_length ns cs 32 0

pub list_at : (ns : List ℕ) (cs : List Cell) (x : ℕ) → x < 32 → get_or (list_of ns cs) x no_zone ≡ zone_in ns cs x
list_at ns cs x h = zones_at_lem ns cs 32 0 x h ∙ ap (zone_in ns cs) (omega arith)

parts_at : (ts : List Task) (ns : List ℕ) (cs : List Cell) (n p x : ℕ) → x < n → get_or (parts_from ts ns cs p n) x no_part ≡ part_at_place ts ns
    cs (p + x)
unfolding parts_from
parts_at ts ns cs zero p x h = absurd (omega arith)
parts_at ts ns cs (suc n) p zero h = ap (part_at_place ts ns cs) (omega arith)
parts_at ts ns cs (suc n) p (suc x) h = parts_at ts ns cs n (suc p) x (omega arith) ∙ ap (part_at_place ts ns cs) (omega arith)

pub stack_at : (ts : List Task) (ns : List ℕ) (cs : List Cell) (x : ℕ) → x < 25 → get_or (stack_of ts ns cs) x no_part ≡ part_at_place ts ns cs x
stack_at ts ns cs x h = parts_at ts ns cs 25 0 x h ∙ ap (part_at_place ts ns cs) (omega arith)

-- what a stack weighs depends on the parts below its depth alone
pub load_same : (st st' : List Part) (k : ℕ) → ((x : ℕ) → x < k → get_or st x no_part ≡ get_or st' x no_part) → load st k ≡ load st' k
unfolding load
load_same st st' zero h = refl
load_same st st' (suc k) h =
    λ i. weight (h k (omega arith) i) + load_same st st' k (λ x g. h x (omega arith)) i

-- ---- numbers that are all zero are blank zones
pub zeros_at_lem : {A : Type 0} (n : ℕ) (a : A) (i : ℕ) → get_or (replicate n a) i a ≡ a
zeros_at_lem zero a i = refl
zeros_at_lem (suc n) a zero = refl
zeros_at_lem (suc n) a (suc i) = zeros_at_lem n a i

module _ (l : List ℤ) (m : List ℕ) (hl : (i : ℕ) → get_or l i (pos 0) ≡ pos 0) (hm : (i : ℕ) → get_or m i 0 ≡ 0) where
  row_zero : (r : ℕ) → row_at l r ≡ zero_expr
  unfolding row_at expr_at
  row_zero r =
      λ i. record {
        constant = hl (5 * r) i;
        coefs = hl (5 * r + 1) i ∷ hl (suc (5 * r + 1)) i ∷ hl (suc (suc (5 * r + 1))) i ∷ hl (suc (suc (suc (5 * r + 1)))) i ∷ [];
      }

  rows_zero : (n r : ℕ) → rows_from l r n ≡ replicate n zero_expr
  unfolding rows_from
  rows_zero zero r = refl
  rows_zero (suc n) r = λ i. row_zero r i ∷ rows_zero n (suc r) i

  bounds_zero : (n r q : ℕ) → bounds_from l m r q n ≡ replicate n zero_bound
  unfolding bounds_from bound_on
  bounds_zero zero r q = refl
  bounds_zero (suc n) r q =
      λ i. record { none = ltb 1 (hm q i); strict = eqb (hm q i % 2) 1; expr = row_zero r i } ∷ bounds_zero n (suc r) (suc q) i

  pub blank_zone_lem : (ns : List ℕ) (x : ℕ) → x < 90 → ((i : ℕ) → get_or ns i 0 ≡ 0) → zone_in ns (cells_in l m) x ≡ blank_zone
  unfolding cell_at
  blank_zone_lem ns x h hn =
      ap (zone_of (get_or ns x 0)) (cells_at l m x h)
      ∙ (λ i. record { count = hn x i; ineqs = rows_zero 24 (50 * x) i; bounds = bounds_zero 25 (50 * x + 25) (25 * x) i })
