-- A guard (paper: limit) of 12 or 14 bytes, and a counted list of guards (paper 01, "The sheet file", last item, and "Body 2"). A `Cursor`
-- and its fields are those of crate cursor, specs/Cursor: the first wrong field stops it.
use Rattle.std.specs.Prelude.{ℕ, List, Bool, false, not, cond, ◌&&◌, set, replicate, ltb, leb, eqb, ℤ, pos}
use Rattle.expr.specs.Records.{PARAMETERS, no_bound, zero_bound}
use Rattle.expr.specs.declared.number.Expr.{Expr}
use Rattle.expr.specs.declared.bound.Bound.{Bound}
use Rattle.cursor.specs.declared.Cursor.{Cursor}
use Rattle.cursor.specs.Cursor.{judged, byte_field, number_field, zero_field, signed_of, iterate}
use Rattle.guards.specs.declared.Guard.{Guard}
use Rattle.guards.specs.declared.GuardAt.{GuardAt}
use Rattle.guards.specs.declared.CoefsAt.{CoefsAt}
use Rattle.guards.specs.declared.GuardsAt.{GuardsAt}

-- constant and coefficients
unfoldable pub guard_expr : ℕ → List ℤ → Expr
guard_expr constant coefs = record { constant = signed_of constant; coefs = coefs }

-- relation 0 is ≤, 1 is <; a guard's bound is never none
unfoldable pub guard_bound : ℕ → Expr → Bound
guard_bound relation expr = record { none = false; strict = eqb relation 1; expr = expr }

-- exactly one of a, b is 0
unfoldable pub one_zero : ℕ → ℕ → Bool
one_zero a b = cond (eqb a 0) (not (eqb b 0)) (eqb b 0)

-- clock b (paper: watch), after clock a: at most the count of clocks; both clocks zero, or neither, is wrong at b
unfoldable pub right_field : List ℕ → ℕ → ℕ → Cursor → Cursor
right_field s end clocks a = judged a (byte_field s end 0 clocks a) (one_zero a.byte (byte_field s end 0 clocks a).byte)

-- the coefficient of parameter i (paper: allowance), where the sheet has it: -1,000 to 1,000
unfoldable pub coef_step : List ℕ → ℕ → ℕ → ℕ → CoefsAt → CoefsAt
coef_step s end parameters i all =
    let field = number_field s end all.cursor in
    cond (ltb i parameters) (record { cursor = field; coefs = set all.coefs i (signed_of field.word) }) all

-- before any coefficient is read
unfoldable pub zero_coefs : List ℤ
zero_coefs = replicate PARAMETERS (pos 0)

-- the coefficients of the sheet's parameters in order
unfoldable pub coefs_at : List ℕ → ℕ → ℕ → Cursor → CoefsAt
coefs_at s end parameters cursor = iterate (coef_step s end parameters) (record { cursor = cursor; coefs = zero_coefs }) PARAMETERS

-- the coefficient of parameter i, where the sheet lacks it and a guard has it still: 0
unfoldable pub zero_step : List ℕ → ℕ → ℕ → ℕ → ℕ → Cursor → Cursor
zero_step s end most parameters i cursor = cond (leb parameters i && ltb i most) (zero_field s end cursor) cursor

-- the coefficients that are left: a guard has as many as a sheet of its version has parameters at most
unfoldable pub zeros_at : List ℕ → ℕ → ℕ → ℕ → Cursor → Cursor
zeros_at s end most parameters cursor = iterate (zero_step s end most parameters) cursor PARAMETERS

-- a guard: clock a, clock b, relation, a zero byte, constant, coefficients
unfoldable pub guard_at : List ℕ → ℕ → ℕ → ℕ → ℕ → Cursor → GuardAt
guard_at s end most parameters clocks cursor =
    let a = byte_field s end 0 clocks cursor in
    let b = right_field s end clocks a in
    let relation = byte_field s end 0 1 b in
    let zeroByte = byte_field s end 0 0 relation in
    let constant = number_field s end zeroByte in
    let all = coefs_at s end parameters constant in
    record {
      cursor = zeros_at s end most parameters all.cursor;
      guard =
          record {
            left = a.byte;
            right = b.byte;
            bound = guard_bound relation.byte (guard_expr constant.word all.coefs);
          };
    }

-- the guard that is read past a list's end: zeros
abbrev pub no_guard : Guard
no_guard =
    record {
      left = 0;
      right = 0;
      bound = no_bound;
    }

-- what stands past the count
unfoldable pub blank_guard : Guard
blank_guard = record { left = 0; right = 0; bound = zero_bound }

-- before any guard is read
unfoldable pub blank_guards : List Guard
blank_guards = replicate 6 blank_guard

-- guard i of a list, where the count has it
unfoldable pub guard_step : List ℕ → ℕ → ℕ → ℕ → ℕ → ℕ → GuardsAt → GuardsAt
guard_step s end most parameters clocks i list =
    cond (ltb i list.count)
    (record {
      cursor = (guard_at s end most parameters clocks list.cursor).cursor;
      count = list.count;
      guards = set list.guards i (guard_at s end most parameters clocks list.cursor).guard;
    })
    list

-- a count of guards 0 to 6, then the guards
unfoldable pub guards_at : List ℕ → ℕ → ℕ → ℕ → ℕ → Cursor → GuardsAt
guards_at s end most parameters clocks cursor =
    let count = byte_field s end 0 6 cursor in
    iterate (guard_step s end most parameters clocks) (record { cursor = count; count = count.byte; guards = blank_guards }) 6
