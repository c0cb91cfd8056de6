-- The last inequalities are halves, and those before them the same.
use native.Mathlib.Omega.{arith}
use Rattle.integer.specs.Apart.{apart}
use Rattle.siblings.specs.Siblings.{siblings_are}
use Rattle.siblings.proofs.pair.siblings.Goals as goal

pub returns-then-n-eq0 : goal.returns-then-n-eq0
returns-then-n-eq0 c = λ e. apart cc

pub returns-then-n-gt24 : goal.returns-then-n-gt24
returns-then-n-gt24 c = λ e. apart cc

pub returns-then-halves : goal.returns-then-halves
returns-then-halves c =
    λ same. siblings_are c.args.cells.now c.args.p c.args.q c.args.n (omega (arith, c.if-n-eq0.false))
    (omega (arith, c.if-n-gt24.false)) _ _ c.inequality-e.ensures c.inequality-f.ensures (c.halves.ensures c.if-halves.true)
    (c.same.ensures same)

pub returns : goal.returns
returns c = λ e. apart cc
