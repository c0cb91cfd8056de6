-- It is seen to be so.
use mathlib.Core.Path.{sym}
use mathlib.Core.Bool.{true≢false}
use Rattle.running.proofs.tests.at_once.Goals as goal

pub returns-then-v : goal.returns-then-v
returns-then-v c = λ e. absurd (true≢false (sym e))
