-- Opposite coefficients, and a sum of the constants that is -1.
use native.Mathlib.Omega.{arith}
use Rattle.std.proofs.lemmas.Int.{ints}
use Rattle.opposites.specs.Opposite.{opposite_halves}
use Rattle.opposites.proofs.pairs.halves.Goals as goal

pub returns-then-opposite : goal.returns-then-opposite
returns-then-opposite c =
    let s = c.args in
    λ e. opposite_halves s.e s.f (c.opposite.ensures c.if-opposite.true) (grind (arith, ints)) (grind (arith, ints))
