-- The branches are the two cases.
use mathlib.Core.Path.{refl, sym, ◌∙◌}
use Rattle.settling.proofs.not_no.Goals as goal

pub returns-then-asked : goal.returns-then-asked
returns-then-asked c =
    record { kind_value = rw (sym c.never-asked.ensures.never_value ∙ c.if-asked.true) refl; leaves = c.never-asked.ensures.leaves }

pub returns : goal.returns
returns c =
    record {
      kind_value = rw (sym c.never-asked.ensures.never_value ∙ c.if-asked.false) c.split_at.ensures;
      leaves = c.never-asked.ensures.leaves;
    }
