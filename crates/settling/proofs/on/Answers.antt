-- The branches are the cases of `on_f`; the guess tells that a side is not empty.
use Rattle.zones.specs.Fits.{fit_same}
use Rattle.zones.specs.Settled.{opposite_c}
use Rattle.settling.proofs.Cases.{on_held, on_no, on_split, on_asked, same_twice}
use Rattle.settling.proofs.on.Goals as goal

pub returns-then-held : goal.returns-then-held
unfolding opposite_c
returns-then-held c =
    let a = c.args in
    let g = c.held.ensures c.if-held.true in
    let said = c.not_no.ensures in
    record {
      kind_value = on_held a.h a.n a.flat.now c.requires a.e _ _ g.0 g.1 c.opposite.ensures said.kind_value;
      leaves = said.leaves;
    }

pub returns-then-first : goal.returns-then-first
returns-then-first c =
    let a = c.args in record {
      kind_value = on_no a.h a.n a.flat.now c.requires a.e _ c.never-first.ensures.never_value c.if-first.true;
      leaves = c.never-first.ensures.leaves;
    }

pub returns-then-held-2 : goal.returns-then-held-2
unfolding opposite_c
returns-then-held-2 c =
    let a = c.args in
    let g = c.held-2.ensures c.if-held-2.true in record {
      kind_value = on_split a.h a.n a.flat.now c.requires a.e _ c.never-first.ensures.never_value c.if-first.false
          _ c.opposite-x.ensures g.0 g.1 _ c.split_at.ensures;
      leaves = c.never-first.ensures.leaves;
    }

pub not_no-requires-2 : goal.not_no-requires-2
not_no-requires-2 c =
    let a = c.args in
    fit_same a.h a.n a.flat.now _ c.requires c.never-first.ensures.leaves

pub returns : goal.returns
unfolding opposite_c
returns c =
    let a = c.args in
    let said = c.not_no-2.ensures in record {
      kind_value = on_asked a.h a.n a.flat.now c.requires a.e _ c.never-first.ensures.never_value
          c.if-first.false _ c.opposite-x.ensures _
          c.never-first.ensures.leaves _ said.kind_value;
      leaves = same_twice a.n a.flat.now _ _ c.never-first.ensures.leaves said.leaves;
    }
