-- Nothing meets the last inequality and another, or it is searched.
use Rattle.search.proofs.Answered.{some_none, some_is, found_meets}
use Rattle.search.proofs.hunt.Goals as goal

pub returns-then-clashes : goal.returns-then-clashes
returns-then-clashes c =
    let m = c.min in record {
      found_value = some_none c.args.b.list c.args.flat.now c.args.n m.result m.ensures
          (c.well_formed.0.1.1.0.1.0.1) (c.clashes.ensures c.if-clashes.true);
      one = tt;
    }

pub returns : goal.returns
returns c = record {
  found_value = some_is _ _ _ c.some.ensures;
  one = found_meets _ _ _ c.some.ensures;
}
