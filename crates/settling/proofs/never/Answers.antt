-- It is below 0 throughout the ranges, a nogood says it, the other valuation tells, or it is searched with the others.
use Rattle.std.proofs.Common.{◌≡◌, sym, ap, ◌∙◌, Bool, true, false, not}
use Rattle.zones.specs.Fits.{refuted_never, same_put}
use Rattle.settling.proofs.Cases.{failed_never, never_is, same_rows}
use Rattle.settling.proofs.never.Goals as goal

pub returns-then-fails : goal.returns-then-fails
returns-then-fails c =
    let a = c.args in record {
      never_value = failed_never a.h a.n a.flat.now c.requires a.e (c.fails.ensures c.if-fails.true);
      leaves = same_rows a.n a.flat.now;
    }

pub returns-then-refute : goal.returns-then-refute
returns-then-refute c =
    let a = c.args in record {
      never_value = refuted_never a.h a.n a.flat.now a.e c.requires (c.refute.ensures c.if-refute.true);
      leaves = same_rows a.n a.flat.now;
    }

pub returns-in-Some : goal.returns-in-Some
returns-in-Some c =
    let a = c.args in record {
      never_value = never_is a.h.ranges a.flat.now _ a.n _ a.e _ c.min-m.ensures c.put.ensures c.in-Some.ensures;
      leaves = same_put a.h a.n a.flat.now a.e c.requires _ c.put.ensures;
    }

turned : (a b : Bool) → a ≡ not b → b ≡ not a
turned a true e = sym (ap not e)
turned a false e = sym (ap not e)

pub returns : goal.returns
returns c =
    let a = c.args in record {
      never_value = turned _ _ c.is_none.ensures
          ∙ never_is a.h.ranges a.flat.now _ a.n _ a.e _ c.min-m.ensures c.put.ensures c.hunt-s.ensures.found_value;
      leaves = same_put a.h a.n a.flat.now a.e c.requires _ c.put.ensures;
    }
