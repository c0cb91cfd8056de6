-- The two parts of a split, in cells.
use Rattle.std.specs.Prelude.{cond, List, ℕ, ◌+◌, ◌-◌, ltb, get_or, set}
use Rattle.cells.specs.Cells.{Cell, no_cell, with_ineq, with_matrix}
use Rattle.constrain.specs.Rules.{via_c}
use Rattle.constrain.specs.declared.rule.Rule.{Rule}
use Rattle.running.specs.declared.task.Task.{Task}
use Rattle.zones.specs.Settled.{opposite_c}

-- the yes part: the test, and from the third phase on the entry that it asks for
abbrev pub yes_cell : Rule → Cell → ℕ → Task → Cell
yes_cell r c n t =
    cond (ltb 1 t.phase) (with_matrix (with_ineq c n t.test) (set c.bounds (t.phase - 2) (via_c r (t.phase - 2))))
    (with_ineq c n t.test)

-- the no part: the opposite of the test
abbrev pub no_half : Cell → ℕ → Task → Cell
no_half c n t = with_ineq c n (opposite_c t.test)

-- the no part at place p, the yes part at the next
abbrev pub halves_c : Rule → List Cell → ℕ → ℕ → Task → List Cell
halves_c r cs p n t = set (set cs p (no_half (get_or cs p no_cell) n t)) (p + 1) (yes_cell r (get_or cs p no_cell) n t)
