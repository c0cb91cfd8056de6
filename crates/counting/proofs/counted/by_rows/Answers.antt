-- The branches are the two tests.
use native.Mathlib.Omega.{arith}
use Rattle.integer.specs.Apart.{apart}
use Rattle.counting.proofs.counted.by_rows.Goals as goal

pub returns-then-k-gt25 : goal.returns-then-k-gt25
returns-then-k-gt25 c = λ e. apart cc

pub returns : goal.returns
returns c = λ e. (omega (arith, c.if-k-gt25.false), c.two.ensures e)
