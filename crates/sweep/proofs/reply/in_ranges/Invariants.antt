use Rattle.sweep.proofs.Replies.{Placing}
use Rattle.sweep.proofs.reply.in_ranges.Given as goal

-- The tests are those of `outside`, in order; a number in its range fits 16 bits.
abbrev pub invariant-loop-i : goal.invariant-loop-i
invariant-loop-i l = Placing l.b.list l.numbers.list l.i l.v
