use Rattle.guard_bytes.specs.Plain.{CoefsKept}
use Rattle.guard_bytes.proofs.coefs_plain.Given as goal

abbrev pub invariant-loop-i : goal.invariant-loop-i
invariant-loop-i l = CoefsKept l.file l.parameters l.at l.constant l.i l.word l.list
