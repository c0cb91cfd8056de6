-- The proved rows of paper 01, "Sheets to try", in its order, and one of version 2, as one table, and one theorem that the definitions
-- yield every row: each sheet as the bytes of its file; what Windows answers with a table of 32 places, what is in it, and what Sweep
-- answers, by computing; and with that, from the theorems, whether a run follows the route.
use Rattle.std.specs.Prelude.{◌≡◌, ◌↔◌, List, [], ◌∷◌, map, true, false, ℕ, ℤ, pos, ◌+ℤ◌, ◌*ℤ◌, length, take, ◌≤ℤ◌}
use Rattle.intervals.specs.Interval.{interval}
use Rattle.expr.specs.Ranges.{In}
use Rattle.expr.specs.Records.{affine, range_list, point, valuation_of}
use Rattle.valuations.specs.Valuations.{count}
use Rattle.expr.specs.declared.bound.Bound.{Bound}
use Rattle.expr.specs.declared.number.Expr.{Expr}
use Rattle.expr.specs.declared.number.Valuation.{Valuation}
use Rattle.expr.specs.declared.range.Range.{Range}
use Rattle.timed.specs.Lists.{AllOf}
use Rattle.sheet.specs.declared.Sheet.{Sheet}
use Rattle.timed.specs.Runs.{Run}
use Rattle.sweep.specs.Theorems.{sheet_of, IsRun, IsVoid}
use Rattle.agreement.specs.Bytes.{minus, range, with, constant, with_p, with_pq, at_most, under, at_most_four, standing, moving_in, moving}
use Rattle.agreement.specs.Words.{windows_of, table, piece_at}
use Rattle.answers.specs.Numbers.{numbered}
use Rattle.answers.specs.declared.windows.Counts.{Counts}
use Rattle.windows_reply.specs.Reply.{answered_of}
use Rattle.constrain.specs.Rules.{entry_c}
use Rattle.pieces.specs.declared.Piece.{Piece}

-- ---- a row
-- a piece: how many valuations (paper: settings) it holds, the first of them, and its inequalities, each an expression that is at least 0
pub record PieceRow : Type 0 where
  pub holds : ℕ
  pub first : Valuation
  pub ineqs : List Expr

-- entry (row, column) of the matrix of a piece
pub record Entry : Type 0 where
  pub piece : ℕ
  pub row : ℕ
  pub column : ℕ
  pub bound : Bound

-- a sheet's file; the pieces in order, kept and cut; some entries; valuations with a run, and without
pub record SheetRow : Type 0 where
  pub file : List ℕ
  pub pieces : List PieceRow
  pub kept : ℕ
  pub cut : ℕ
  pub entries : List Entry
  pub runs : List Valuation
  pub voids : List Valuation

-- the part of a range where constant + slope × p ≥ 0
pub record IntervalRow : Type 0 where
  pub whole : Range
  pub constant : ℤ
  pub slope : ℤ
  pub part : Range

pub data Row : Type 0 where
  sheet : SheetRow → Row
  inequality : IntervalRow → Row

-- ---- what it is to yield a row
-- a piece of the table, as a row has it
abbrev pub piece_in : Sheet → Piece → PieceRow
piece_in s z =
    record {
      holds = count (range_list s.ranges) (map affine (take z.count z.ineqs));
      first = z.first;
      ineqs = take z.count z.ineqs;
    }

abbrev pub counts_in : SheetRow → Counts
counts_in r = record { pieces = length r.pieces; kept = r.kept; cut = r.cut }

pub record SheetYields (r : SheetRow) : Type 0 where
  pub lists : answered_of (windows_of r.file 32) ≡ record { answer = numbered 0 0; counts = counts_in r }
  pub pieces : map (piece_in (sheet_of r.file)) (take (length r.pieces) (table r.file 32)) ≡ r.pieces
  pub entries : AllOf (λ e. entry_c (piece_at r.file 32 e.piece).bounds e.row e.column ≡ e.bound) r.entries
  pub runs : AllOf (λ v. IsRun r.file (point v) × Run (sheet_of r.file) (point v)) r.runs
  pub voids : AllOf (λ v. IsVoid r.file (point v) × (Run (sheet_of r.file) (point v) → ⊥)) r.voids

pub record IntervalYields (r : IntervalRow) : Type 0 where
  pub is : interval r.whole r.constant r.slope ≡ r.part
  pub exactly : (p : ℤ) → In p r.part ↔ (In p r.whole × (pos 0 ≤ℤ (r.constant +ℤ (r.slope *ℤ p))))

abbrev pub Yields : Row → Type 0
Yields (sheet r) = SheetYields r
Yields (inequality r) = IntervalYields r

-- ---- the table
-- p alone
abbrev pub at : ℤ → Valuation
at p = valuation_of (p ∷ [])

-- p and q
abbrev both : ℤ → ℤ → Valuation
both p q = valuation_of (p ∷ q ∷ [])

-- all four
abbrev pub all : ℤ → ℤ → ℤ → ℤ → Valuation
all p q r s = valuation_of (p ∷ q ∷ r ∷ s ∷ [])

abbrev piece : ℕ → Valuation → List Expr → PieceRow
piece n v ineqs = record { holds = n; first = v; ineqs = ineqs }

abbrev entry : ℕ → ℕ → ℕ → Bound → Entry
entry n i j b = record { piece = n; row = i; column = j; bound = b }

abbrev no_bound : Bound
no_bound = record { none = true; strict = false; expr = constant (pos 0) }

abbrev le : Expr → Bound
le e = record { none = false; strict = false; expr = e }

-- p, q, and p - 3 and the like
abbrev p_only : Expr
p_only = with_p (pos 0) (pos 1)

abbrev q_only : Expr
q_only = with_pq (pos 0) (pos 0) (pos 1)

abbrev p_less : ℕ → Expr
p_less n = with_p (minus n) (pos 1)

abbrev zero_to5 : List Range
zero_to5 = range (pos 0) (pos 5) ∷ range (pos 0) (pos 5) ∷ []

-- A: p in 0..10; location 0 has the invariant 1 - 0 ≤ p, the transition the guard 0 - 1 ≤ -3
abbrev pub row_a : SheetRow
row_a =
    record {
      file = moving (range (pos 0) (pos 10) ∷ []) (at_most 1 0 p_only ∷ []) (at_most 0 1 (constant (minus 3)) ∷ []);
      pieces = piece 8 (at (pos 3)) (p_less 3 ∷ []) ∷ [];
      kept = 8;
      cut = 3;
      entries =
          entry 0 0 0 (le (constant (pos 0))) ∷ entry 0 0 1 (le (constant (minus 3))) ∷ entry 0 1 0 no_bound
          ∷ entry 0 1 1 (le (constant (pos 0))) ∷ [];
      runs = at (pos 3) ∷ [];
      voids = at (pos 2) ∷ [];
    }

-- A with 1 - 0 < p
abbrev pub row_strict : SheetRow
row_strict =
    record {
      file = moving (range (pos 0) (pos 10) ∷ []) (under 1 0 p_only ∷ []) (at_most 0 1 (constant (minus 3)) ∷ []);
      pieces = piece 7 (at (pos 4)) (p_less 1 ∷ p_less 4 ∷ []) ∷ [];
      kept = 7;
      cut = 4;
      entries = [];
      runs = at (pos 4) ∷ [];
      voids = at (pos 3) ∷ [];
    }

-- p, q in 0..5, one location, invariants ≤ p then ≤ q, empty route: 15 where p - q - 1 ≥ 0, then 21 where q - p ≥ 0
abbrev pub row_pq : SheetRow
row_pq =
    record {
      file = standing zero_to5 (at_most 1 0 p_only ∷ at_most 1 0 q_only ∷ []);
      pieces =
          piece 15 (both (pos 1) (pos 0)) (with_pq (minus 1) (pos 1) (minus 1) ∷ [])
          ∷ piece 21 (both (pos 0) (pos 0)) (with_pq (pos 0) (minus 1) (pos 1) ∷ []) ∷ [];
      kept = 36;
      cut = 0;
      entries = [];
      runs = [];
      voids = [];
    }

-- the same two in the other order: 15 where q - p - 1 ≥ 0, then 21 where p - q ≥ 0
abbrev pub row_qp : SheetRow
row_qp =
    record {
      file = standing zero_to5 (at_most 1 0 q_only ∷ at_most 1 0 p_only ∷ []);
      pieces =
          piece 15 (both (pos 0) (pos 1)) (with_pq (minus 1) (minus 1) (pos 1) ∷ [])
          ∷ piece 21 (both (pos 0) (pos 0)) (with_pq (pos 0) (pos 1) (minus 1) ∷ []) ∷ [];
      kept = 36;
      cut = 0;
      entries = [];
      runs = [];
      voids = [];
    }

-- no limits, empty route: one piece, (1, 0) none
abbrev pub row_free : SheetRow
row_free =
    record {
      file = standing [] [];
      pieces = piece 1 (at (pos 0)) [] ∷ [];
      kept = 1;
      cut = 0;
      entries = entry 0 1 0 no_bound ∷ [];
      runs = at (pos 0) ∷ [];
      voids = [];
    }

-- invariant 1 - 0 < p, p in 0..0, empty route: no pieces, cut 1, Sweep void
abbrev pub row_none : SheetRow
row_none =
    record {
      file = standing (range (pos 0) (pos 0) ∷ []) (under 1 0 p_only ∷ []);
      pieces = [];
      kept = 0;
      cut = 1;
      entries = [];
      runs = [];
      voids = at (pos 0) ∷ [];
    }

-- p in -5..5, guard 0 - 1 ≤ p alone: 5 where -p - 1 ≥ 0, and 6 where p ≥ 0
abbrev pub row_back : SheetRow
row_back =
    record {
      file = moving (range (minus 5) (pos 5) ∷ []) [] (at_most 0 1 p_only ∷ []);
      pieces = piece 5 (at (minus 5)) (with_p (minus 1) (minus 1) ∷ []) ∷ piece 6 (at (pos 0)) (p_only ∷ []) ∷ [];
      kept = 11;
      cut = 0;
      entries = [];
      runs = [];
      voids = [];
    }

-- -2p - 5 ≥ 0 in -10..0: largest p is -3
abbrev pub row_down : IntervalRow
row_down = record { whole = range (minus 10) (pos 0); constant = minus 5; slope = minus 2; part = range (minus 10) (minus 3) }

-- 2p - 5 ≥ 0 in 0..10: smallest 3
abbrev pub row_up : IntervalRow
row_up = record { whole = range (pos 0) (pos 10); constant = minus 5; slope = pos 2; part = range (pos 3) (pos 10) }

-- invariant 1 - 0 ≤ 0, guard 0 - 1 ≤ 0: a run
abbrev pub row_touch : SheetRow
row_touch =
    record {
      file = moving [] (at_most 1 0 (constant (pos 0)) ∷ []) (at_most 0 1 (constant (pos 0)) ∷ []);
      pieces = piece 1 (at (pos 0)) [] ∷ [];
      kept = 1;
      cut = 0;
      entries = [];
      runs = at (pos 0) ∷ [];
      voids = [];
    }

-- with 0 - 1 < 0: none
abbrev pub row_apart : SheetRow
row_apart =
    record {
      file = moving [] (at_most 1 0 (constant (pos 0)) ∷ []) (under 0 1 (constant (pos 0)) ∷ []);
      pieces = [];
      kept = 0;
      cut = 1;
      entries = [];
      runs = [];
      voids = at (pos 0) ∷ [];
    }

-- and with 1 - 0 < 0: none
abbrev pub row_never : SheetRow
row_never =
    record {
      file = moving [] (under 1 0 (constant (pos 0)) ∷ []) (at_most 0 1 (constant (pos 0)) ∷ []);
      pieces = [];
      kept = 0;
      cut = 1;
      entries = [];
      runs = [];
      voids = at (pos 0) ∷ [];
    }

-- version 2 (paper 02, request (i)): p in 0..1, q in 0..0, r in 0..1, s in 0..3; location 0 has the invariant 1 - 0 ≤ p + s, the
-- transition the guard 0 - 1 ≤ -3: 6 where p + s - 3 ≥ 0
abbrev pub row_four : SheetRow
row_four =
    record {
      file =
          moving_in 2 (range (pos 0) (pos 1) ∷ range (pos 0) (pos 0) ∷ range (pos 0) (pos 1) ∷ range (pos 0) (pos 3) ∷ [])
          (at_most_four 1 0 (with (pos 0) (pos 1 ∷ pos 0 ∷ pos 0 ∷ pos 1 ∷ [])) ∷ []) (at_most_four 0 1 (constant (minus 3)) ∷ []);
      pieces = piece 6 (all (pos 0) (pos 0) (pos 0) (pos 3)) (with (minus 3) (pos 1 ∷ pos 0 ∷ pos 0 ∷ pos 1 ∷ []) ∷ []) ∷ [];
      kept = 6;
      cut = 10;
      entries = entry 0 0 1 (le (constant (minus 3))) ∷ entry 0 1 0 no_bound ∷ [];
      runs = all (pos 0) (pos 0) (pos 1) (pos 3) ∷ [];
      voids = all (pos 0) (pos 0) (pos 1) (pos 2) ∷ [];
    }

abbrev pub rows : List Row
rows =
    sheet row_a ∷ sheet row_strict ∷ sheet row_pq ∷ sheet row_qp ∷ sheet row_free ∷ sheet row_none ∷ sheet row_back ∷ inequality row_down
    ∷ inequality row_up
    ∷ sheet row_touch ∷ sheet row_apart ∷ sheet row_never ∷ sheet row_four ∷ []

-- the statement
abbrev pub ListedCases : Type 0
ListedCases = AllOf Yields rows
