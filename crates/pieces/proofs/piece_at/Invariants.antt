use Rattle.pieces.proofs.Reading.{Reading}
use Rattle.pieces.proofs.piece_at.Given as goal

-- Inequalities and entries are read one after another.
abbrev pub invariant-loop-i : goal.invariant-loop-i
invariant-loop-i l = Reading l.cells l.marks l.p l.n l.i l.initial.z.first l.z
