-- A part of a zone on its way through the tests of a guard: one test, and the two parts of a split, on the code's records.
use Rattle.std.specs.Prelude.{List, Bool, true, false, cond, ◌&&◌, ℕ, ◌+◌, ◌-◌, min, ltb, eqb, set}
use Rattle.constrain.specs.Rules.{via_c, ask_c}
use Rattle.constrain.specs.declared.rule.Rule.{Rule}
use Rattle.expr.specs.Records.{zero_expr}
use Rattle.expr.specs.declared.bound.Bound.{Bound}
use Rattle.expr.specs.declared.bound.Test.{Test}
use Rattle.expr.specs.declared.bound.Test.TheVariants.{Yes, No, Ask}
use Rattle.expr.specs.declared.number.Expr.{Expr}
use Rattle.expr.specs.declared.range.Ranges.{Ranges}
use Rattle.parts.specs.declared.part.Halt.{Halt}
use Rattle.parts.specs.declared.part.Halt.TheVariants as stops
use Rattle.parts.specs.declared.part.Next.{Next}
use Rattle.parts.specs.declared.part.Part.{Part}
use Rattle.parts.specs.declared.part.Turn.{Turn}
use Rattle.zones.specs.Settled.{told_settled, told_yes, opposite_c, settled_c}
use Rattle.zones.specs.Zone.{more_c}
use Rattle.zones.specs.declared.told.Told.{Told}
use Rattle.zones.specs.declared.told.Told.TheVariants as kinds
use Rattle.zones.specs.declared.zone.Zone.{Zone}

abbrev pub with_bounds : Zone → List Bound → Zone
with_bounds z m = record { count = z.count; ineqs = z.ineqs; bounds = m }

-- a part goes on
abbrev pub goes_on : Halt → Bool
goes_on stops.No = true
goes_on stops.Cut = false
goes_on stops.Kept = false
goes_on stops.Split = false
goes_on stops.Full = false
goes_on (stops.Other n) = false

-- .. is kept
abbrev pub is_kept : Halt → Bool
is_kept stops.No = false
is_kept stops.Cut = false
is_kept stops.Kept = true
is_kept stops.Split = false
is_kept stops.Full = false
is_kept (stops.Other n) = false

-- .. splits
abbrev pub is_split : Halt → Bool
is_split stops.No = false
is_split stops.Cut = false
is_split stops.Kept = false
is_split stops.Split = true
is_split stops.Full = false
is_split (stops.Other n) = false

-- .. goes on, is cut or is kept
abbrev pub is_whole : Halt → Bool
is_whole stops.No = true
is_whole stops.Cut = true
is_whole stops.Kept = true
is_whole stops.Split = false
is_whole stops.Full = false
is_whole (stops.Other n) = false

-- where a part of a number stops
abbrev pub halt_of : ℕ → Halt
halt_of n =
    cond (eqb n 0) stops.No
    (cond (eqb n 1) stops.Cut
    (cond (eqb n 2) stops.Kept (cond (eqb n 3) stops.Split (cond (eqb n 8) stops.Full (stops.Other n)))))

-- where a verdict of another number stops a part
abbrev pub stopped_by : ℕ → Halt
stopped_by n = cond (eqb n 2) stops.Kept (stops.Other n)

abbrev pub standing : Part → ℕ → Halt → Part
standing p phase halt = record { phase = phase; halt = halt; tests = p.tests; test = p.test; zone = p.zone }

abbrev pub put_c : Part → ℕ → Bound → Part
put_c p x b =
    record {
      phase = p.phase;
      halt = p.halt;
      tests = p.tests;
      test = p.test;
      zone = with_bounds p.zone (set p.zone.bounds x b);
    }

unfoldable pub pushed_c : Rule → Part → ℕ → Bool → Part
pushed_c r p x b =
    let q = cond b (put_c p x (via_c r x)) p in
    cond (ltb x 24) (standing q (x + 3) stops.No) (standing q 27 stops.Kept)

unfoldable pub answered_c : Rule → Part → Bool → Part
answered_c r p b =
    cond (ltb p.phase 1) (cond b (standing p 27 stops.Cut) (standing p 1 stops.No))
    (cond (ltb p.phase 2) (cond b (standing p 2 stops.No) (standing p 27 stops.Kept)) (pushed_c r p (p.phase - 2) b))

abbrev pub halted_c : Part → Halt → Expr → Part
halted_c p halt e = record { phase = p.phase; halt = halt; tests = p.tests; test = e; zone = p.zone }

-- the part after the verdict on its test e
abbrev pub told_c : Rule → Part → Expr → Told → Part
told_c r p e kinds.No = answered_c r p false
told_c r p e kinds.Yes = answered_c r p true
told_c r p e kinds.Split = halted_c p stops.Split e
told_c r p e kinds.Full = halted_c p stops.Full e
told_c r p e (kinds.Other n) = halted_c p (stopped_by n) e

-- how many tests a test is: an answer that comes without asking is none
abbrev pub tests_in : Test → ℕ
tests_in Yes = 0
tests_in No = 0
tests_in (Ask e) = 1

-- the part with its test counted; one that goes on has asked 26 at most
unfoldable pub counted_c : Part → Test → Part
counted_c p t =
    record { phase = p.phase; halt = p.halt; tests = min p.tests 26 + tests_in t; test = p.test; zone = p.zone }

unfoldable pub forward_c : Ranges → Rule → Part → Part
forward_c b r p =
    let t = ask_c r p.phase in
    let v = settled_c b p.zone t in
    told_c r (counted_c p t) v.test v.kind

-- ---- the same in numbers: the phase after a verdict and whether the part goes on; and whether an entry is put in
abbrev pub next : ℕ → Halt → Next
next phase halt = record { phase = phase; halt = halt }

abbrev pub settled_n : ℕ → Bool → Next
settled_n phase b =
    cond (ltb phase 1) (cond b (next 27 stops.Cut) (next 1 stops.No))
    (cond (ltb phase 2) (cond b (next 2 stops.No) (next 27 stops.Kept))
    (cond (ltb phase 26) (next (phase + 1) stops.No) (next 27 stops.Kept)))

unfoldable pub after_c : ℕ → Told → Next
after_c phase kinds.No = settled_n phase false
after_c phase kinds.Yes = settled_n phase true
after_c phase kinds.Split = next phase stops.Split
after_c phase kinds.Full = next phase stops.Full
after_c phase (kinds.Other n) = next phase (stopped_by n)

unfoldable pub enters_c : ℕ → Told → Bool
enters_c phase kind = ltb 1 phase && told_yes kind

-- what a test asks; zero where it asks nothing
abbrev pub question_c : Test → Expr
question_c Yes = zero_expr
question_c No = zero_expr
question_c (Ask e) = e

unfoldable pub turn_c : ℕ → ℕ → Expr → Bound → Test → Bound → Told → Turn
turn_c phase tests test was t via kind =
    record {
      phase = (after_c phase kind).phase;
      halt = (after_c phase kind).halt;
      tests = min tests 26 + tests_in t;
      test = cond (told_settled kind) test (question_c t);
      entry = cond (enters_c phase kind) via was;
    }

-- the two parts of a split
abbrev pub with_more : Part → Expr → Part
with_more p e = record { phase = p.phase; halt = stops.No; tests = p.tests; test = p.test; zone = more_c p.zone e }

unfoldable pub yes_c : Rule → Part → Part
yes_c r p = answered_c r (with_more p p.test) true

unfoldable pub no_c : Rule → Part → Part
no_c r p = answered_c r (with_more p (opposite_c p.test)) false
