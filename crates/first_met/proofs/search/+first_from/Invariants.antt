-- The measure is how many numbers the ranges have together: the narrowed box has no more, and each of its parts fewer.
use Rattle.first_met.specs.Halves.{numbers_of}
use Rattle.first_met.proofs.search.+first_from.Given as goal

abbrev pub decreases-first_from : goal.decreases-first_from
decreases-first_from l = numbers_of l.b.list
