-- The loop's invariant: the widest of the ranges before i.
use borrow.Author.Rules.{rules}
use Rattle.halving.proofs.Loops.{widest_start, widest_here, widest_not, widest_all}
use Rattle.halving.proofs.widest.widest.Goals as goal
use Rattle.halving.proofs.widest.widest.Goals.{then-most-n, else-most-n}

pub loop-i-init : goal.loop-i-init
loop-i-init c = widest_start _

pub loop-i-preserved : goal.loop-i-preserved
loop-i-preserved c =
    let loop = c.loop-i in
    let rs = c.args.b.list in
    elim c.if-most-n.branch [
      | then-most-n v ↦ rw (v.w-is, v.most-is)
          (widest_here rs loop.i loop.w loop.most loop.invariant (search rules) c.width-n.result c.width-n.ensures.value v.if-most-n.true)
      | else-most-n v ↦ rw (v.w-is, v.most-is)
          (widest_not rs loop.i loop.w loop.most loop.invariant (search rules) c.width-n.result c.width-n.ensures.value v.if-most-n.false)
    ]

pub returns : goal.returns
returns c = widest_all _ c.loop-i.i _ _ c.loop-i.invariant (search rules)
