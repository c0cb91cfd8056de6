-- One pair that clashes is enough.
use native.Mathlib.Omega.{arith}
use Rattle.clashes.specs.Weighted.{clash_nothing}
use Rattle.clashes.proofs.list.clashes.Goals as goal

pub returns-then-clash : goal.returns-then-clash
returns-then-clash c =
    let s = c.args in
    λ q. clash_nothing s.flat.now s.n c.loop-k.k c.saturating_sub-earlier.result s.b.list (omega arith) (omega arith)
    (rw (c.inequality-last.ensures, c.inequality.ensures) at (c.clash.ensures c.if-clash.true))
