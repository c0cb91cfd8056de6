use Rattle.index.specs.SheetIn.{sheet_in}
use Rattle.windows_route.specs.Standing.{Standing, way_in}
use Rattle.windows_route.proofs.along.walk.Given as goal

-- The loop's invariant: where the walk stands, in cells (specs/Standing).
abbrev pub invariant-loop-k : goal.invariant-loop-k
invariant-loop-k l = Standing (sheet_in l.file l.ix) l.end l.here l.steps l.cells l.marks l.counts l.hints l.tasks l.waits l.guard l.s l.k

abbrev pub decreases-loop-k : goal.decreases-loop-k
decreases-loop-k l = way_in l.end l.k l.steps l.cells l.marks l.counts l.tasks l.s
