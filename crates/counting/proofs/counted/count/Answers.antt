-- A pair of inequalities that no valuation meets, or the search of the whole box.
use mathlib.Core.Path.{ap, ◌∙◌}
use Prim.Native.Nat.{ℕ, min}
use Rattle.counting.proofs.Nodes.{count_never}
use Rattle.systems.specs.BoxLaws.{count_listed}
use Rattle.widths.specs.Cap.{CAP}
use Rattle.counting.proofs.counted.count.Goals as goal

pub returns-then-opposed : goal.returns-then-opposed
returns-then-opposed c =
    count_never c.args.b.list c.args.flat.now c.args.n c.min-m.result
    c.min-m.ensures
    (c.well_formed.0.1.1.0.1.0.1) (c.opposed.ensures c.if-opposed.true)

pub returns : goal.returns
returns c =
    let m = c.min-m in
    c.count_from.ensures
    ∙ ap (λ (k : ℕ). min k CAP) (count_listed c.args.b.list c.args.flat.now c.args.n m.result m.ensures
    (c.well_formed.0.1.1.0.1.0.1))
