use mathlib.Core.Path.{◌≡◌}
use Prim.Native.Nat.{◌-◌, ◌≤◌}
use Rattle.rows.specs.Lines.{line_at, row_from}
use Rattle.rows.proofs.lines.row.Given as goal

-- The loop's invariant: what the lines from k on leave of the part so far is the whole row.
abbrev pub invariant-loop-k : goal.invariant-loop-k
invariant-loop-k l =
    (l.k ≤ l.n)
    × (row_from (line_at l.constants l.flat l.w l.t) l.k (l.n - l.k) l.x l.r
    ≡ row_from (line_at l.constants l.flat l.w l.t) 0 l.n l.x l.initial.r)
