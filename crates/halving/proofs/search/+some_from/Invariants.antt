-- The measure is how many numbers the ranges have together: the narrowed box has no more, and each of its halves fewer.
use Rattle.first_met.specs.Halves.{numbers_of}
use Rattle.halving.proofs.search.+some_from.Given as goal

abbrev pub decreases-some_from : goal.decreases-some_from
decreases-some_from l = numbers_of l.b.list
