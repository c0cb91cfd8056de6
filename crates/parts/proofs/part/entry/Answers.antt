-- The entry at a place inside, as far as the place is one.
use mathlib.Core.Path.{ap, ◌∙◌}
use Prim.Native.Nat.{ℕ}
use lib.ListN.{get_or}
use Rattle.constrain.specs.Rules.{inside_c}
use Rattle.expr.specs.Records.{no_bound}
use Rattle.parts.proofs.part.entry.Goals as goal

pub returns : goal.returns
returns c =
    let a = c.args in
    c.inside.ensures ∙ ap (λ (i : ℕ). inside_c a.x (get_or a.r.old i no_bound)) c.min.ensures
