-- A guess that lies inside the ranges and meets the inequalities; nothing that meets them; or neither is seen.
use Rattle.search.proofs.Answered.{guess_meets, some_none}
use Rattle.search.proofs.glance.Goals as goal

pub returns-then-guessed : goal.returns-then-guessed
returns-then-guessed c =
    let m = c.min-m in
    let g = c.guessed.ensures c.if-guessed.true in
    guess_meets c.args.b.list c.args.flat.now c.args.n m.result m.ensures
    (c.well_formed.0.1.1.0.1.0.1) c.args.guess.numbers g.0 g.1

pub returns-then-fails : goal.returns-then-fails
returns-then-fails c =
    let m = c.min-m in
    some_none c.args.b.list c.args.flat.now c.args.n m.result m.ensures
    (c.well_formed.0.1.1.0.1.0.1) (c.fails.ensures c.if-fails.true)
