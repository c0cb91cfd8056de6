use Rattle.guard_lists.specs.Listed.{Stands}
use Rattle.guard_lists.proofs.guards_from.Given as goal

-- `guards_from` meets its contract. The invariant: after i guards, all right, reading stands where `iterate` says. Assumes nothing.
abbrev pub invariant-loop-i : goal.invariant-loop-i
invariant-loop-i l = Stands l.file l.end l.most l.parameters l.clocks l.count l.i l.at l.byte l.word l.guards
