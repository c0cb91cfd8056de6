use Rattle.running.specs.Tasks.{answered_t}
use mathlib.Core.Path.{ap}
use Rattle.parts.specs.declared.part.Next.{Next}
use Rattle.running.proofs.task.answered.Goals as goal

pub returns : goal.returns
unfolding answered_t
returns c =
    let t = c.args.t in
    ap (λ (n : Next). record { phase = n.phase; halt = n.halt; tests = t.tests; test = t.test }) c.after-next.ensures
