-- `transitions::resets_right` meets its contract: a shift of 1 is a power of 2, and from 8 clocks on every byte is below it. Assumes
-- nothing.
use borrow.Author.Tests.{lt-ltb}
use mathlib.Core.Path.{sym}
use native.Mathlib.Omega.{arith}
use native.Mathlib.Nat.{lt_of_lt_of_le, one-mul}
use lib.Pow.{pow_mono, shl_exact}
use lib.Dec.{lit<}
use Prim.{tt}
use Rattle.automaton.specs.Automaton.{resets_right}
use Rattle.automaton.proofs.transitions.resets_right.Goals as goal

pub returns-then-clocks-lt8 : goal.returns-then-clocks-lt8
unfolding resets_right
returns-then-clocks-lt8 c =
    let clocks = c.args.clocks in
    rw (shl_exact {a = 1} 1 clocks 32 (lit< tt) (omega arith), one-mul)

pub returns-else-clocks-lt8 : goal.returns-else-clocks-lt8
unfolding resets_right
returns-else-clocks-lt8 c = sym (lt-ltb _ _ (lt_of_lt_of_le c.ranges.resets.fits (pow_mono {i = 8} c.if-clocks-lt8.false)))
