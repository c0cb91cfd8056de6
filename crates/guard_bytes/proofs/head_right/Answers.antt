-- `head_right` meets its contract: code and definition are one composition. Assumes nothing.
use Rattle.guard_bytes.specs.Plain.{head_right}
use Rattle.guard_bytes.proofs.head_right.Goals as goal

pub returns : goal.returns
unfolding head_right
returns c =
    let one = c.before.before.before in
    simp (
      c.within.ensures,
      c.within-fourth.ensures,
      c.within-third.ensures,
      one.one_zero-one.ensures,
      one.within-second.ensures,
      one.within-first.ensures,
    )
