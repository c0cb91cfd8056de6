-- One pair that no valuation meets is enough.
use native.Mathlib.Omega.{arith}
use Rattle.systems.specs.BoxLaws.{apart_never}
use Rattle.systems.proofs.opposite.opposed.Goals as goal

pub returns-then-apart : goal.returns-then-apart
returns-then-apart c =
    let loop = c.loop-k in
    let s = c.args in
    let l = s.flat.now in
    λ q. apart_never l s.n loop.k c.saturating_sub-earlier.result (omega arith) (omega arith)
    (rw (c.inequality-last.ensures, c.inequality.ensures) at (c.apart.ensures c.if-apart.true))
