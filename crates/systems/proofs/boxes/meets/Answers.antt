-- The loop's invariant: the inequalities from k on are met exactly if all are.
use mathlib.Core.Path.{ap, ◌∙◌}
use native.Mathlib.Omega.{arith}
use lib.IntN.{pos}
use Rattle.std.proofs.lemmas.Int.{ints}
use Rattle.expr.specs.Affine.{Affine, value}
use Rattle.systems.proofs.Loops.{meet_stop, meet_next, meet_done}
use Rattle.systems.proofs.boxes.meets.Goals as goal

pub returns-then-value_at-lt0 : goal.returns-then-value_at-lt0
returns-then-value_at-lt0 c =
    let loop = c.loop-k in
    let v = c.args.v.numbers in
    meet_stop _ _ loop.k v c.value_at.result _ (omega arith)
    (c.value_at.ensures.value ∙ ap (λ (e : Affine). value e v) c.inequality.ensures) (grind (arith, ints)) loop.invariant

pub loop-k-preserved : goal.loop-k-preserved
loop-k-preserved c =
    let loop = c.loop-k in
    let v = c.args.v.numbers in
    meet_next _ _ loop.k v c.value_at.result _ (omega arith)
    (c.value_at.ensures.value ∙ ap (λ (e : Affine). value e v) c.inequality.ensures) (grind (arith, ints)) loop.invariant

pub returns : goal.returns
returns c = meet_done _ _ c.loop-k.k _ (pos 0) _ (omega arith) c.loop-k.invariant
