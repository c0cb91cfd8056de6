-- The first of the trimmed box, seen or searched, is the first of the whole box.
use mathlib.Core.Path.{◌≡◌, ap, sym, ◌∙◌}
use native.Mathlib.Omega.{arith}
use mathlib.Core.List.{List}
use Prim.Native.Nat.{ℕ, min}
use lib.IntN.{ℤ}
use lib.ListN.{length}
use Rattle.expr.specs.Records.{PARAMETERS, places_from, blank_range}
use Rattle.expr.specs.declared.range.Range.{Range}
use Rattle.systems.specs.Boxes.{Narrows}
use Rattle.first_met.specs.Solutions.{solution_of}
use Rattle.inequalities.specs.Flat.{exprs_in}
use Rattle.systems.specs.BoxLaws.{first_listed, first_narrows, narrows_refl}
use Rattle.valuations.specs.Valuations.{first}
use Rattle.first_met.proofs.Nodes.{first_emptied, first_never_met}
use Rattle.first_met.proofs.search.first.Goals as goal

pub low_from-s-requires : goal.low_from-s-requires
low_from-s-requires c = (omega arith, tt)

-- the first of the trimmed box, over the list that contracts have
listed : (rs cs : List Range) (flat : List ℤ) (n m : ℕ) → Narrows (exprs_in flat m) rs cs → m ≡ min n (length flat)
    → length rs ≡ PARAMETERS
    → solution_of (first cs (exprs_in flat m)) ≡ solution_of (first (places_from blank_range rs 0 PARAMETERS) (exprs_in flat n))
listed rs cs flat n m h e l = ap solution_of (sym (first_narrows _ _ _ h) ∙ first_listed rs flat n m e l)

pub returns-then-not-inside : goal.returns-then-not-inside
returns-then-not-inside c =
    let cs = c.trimmed-c.result.list in
    first_emptied _ cs cs (narrows_refl _ cs) _ c.corner.ensures (c.inside.ensures.no c.if-not-inside.true)
    ∙ listed _ cs c.args.flat.now c.args.n _ c.trimmed-c.ensures c.min-m.ensures c.well_formed.0.1.1.0.1.0.1

pub returns-then-is_some : goal.returns-then-is_some
returns-then-is_some c =
    c.low_from-s.ensures (sym c.is_some.ensures ∙ c.if-is_some.true)
    ∙ listed _ _ c.args.flat.now c.args.n _ c.trimmed-c.ensures c.min-m.ensures c.well_formed.0.1.1.0.1.0.1

pub returns-then-opposed : goal.returns-then-opposed
returns-then-opposed c =
    first_never_met _ c.trimmed-c.result.list (c.opposed.ensures c.if-opposed.true)
    ∙ listed _ _ c.args.flat.now c.args.n _ c.trimmed-c.ensures c.min-m.ensures c.well_formed.0.1.1.0.1.0.1

pub returns : goal.returns
returns c =
    c.first_from.ensures ∙ listed _ _ c.args.flat.now c.args.n _ c.trimmed-c.ensures c.min-m.ensures c.well_formed.0.1.1.0.1.0.1
