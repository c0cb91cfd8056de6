-- `parameters::range_of` meets its contract: each end is a call's result, and its bits stand for it. Assumes nothing.
use Rattle.parameters.specs.Parameters.{range_of}
use Rattle.cursor_laws.specs.Signed.{kept_short}
use Rattle.parameters.proofs.range_of.Goals as goal

pub returns : goal.returns
unfolding range_of
returns c =
    let fits = c.ranges in
    simp (c.signed_of-2.ensures, c.signed_of.ensures, kept_short _ fits.low, kept_short _ fits.high)
