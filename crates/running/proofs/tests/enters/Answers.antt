-- The branches are the two tests of `enters_c`.
use mathlib.Core.Path.{refl}
use borrow.Author.Tests.{lt-ltb, le-ltb}
use Rattle.parts.specs.Parts.{enters_c}
use Rattle.running.proofs.tests.enters.Goals as goal

pub returns-then-phase-gt1 : goal.returns-then-phase-gt1
unfolding enters_c
returns-then-phase-gt1 c =
    rw (lt-ltb 1 c.args.phase c.if-phase-gt1.true) c.is_yes.ensures

pub returns : goal.returns
unfolding enters_c
returns c =
    rw (le-ltb 1 c.args.phase c.if-phase-gt1.false) refl
