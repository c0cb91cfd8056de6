use Rattle.guard_bytes.specs.Plain.{ZerosKept}
use Rattle.guard_bytes.proofs.zeros_plain.Given as goal

-- `zeros_plain` meets its contract. The invariant: the coefficients before i were read, and are zeros. Assumes nothing.
abbrev pub invariant-loop-i : goal.invariant-loop-i
invariant-loop-i l = ZerosKept l.file l.most l.parameters l.at l.i
