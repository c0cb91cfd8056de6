-- `indexed` meets its contract: the tests on the way pick the definition's case. Assumes nothing.
use Rattle.reading.specs.File.{read_of, refused_by}
use Rattle.indexing.specs.IndexedLaws.{index_same}
use Rattle.indexing.proofs.indexed.Goals as goal

pub returns-then-not-sized : goal.returns-then-not-sized
unfolding read_of refused_by
returns-then-not-sized c = simp (rw c.sized.ensures at c.if-not-sized.true)

pub returns-then-cursor : goal.returns-then-cursor
unfolding read_of
returns-then-cursor c =
    let e = c.contents_of-contents.ensures in
    let o = rw e at c.if-cursor.true in
    let z = rw c.sized.ensures at c.if-not-sized.false in
    simp (c.judged_index.ensures, c.index_of.ensures, e, index_same c.args.file.now z o, z, o)

pub returns-else-cursor : goal.returns-else-cursor
unfolding read_of refused_by
returns-else-cursor c =
    let e = c.contents_of-contents.ensures in
    let o = rw e at c.if-cursor.false in
    let z = rw c.sized.ensures at c.if-not-sized.false in
    simp (z, o, e)
