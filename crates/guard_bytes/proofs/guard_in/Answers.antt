-- `guard_in` meets its contract: what its parts promise is what the law asks. Assumes nothing.
use Rattle.guard_bytes.specs.Plain.{plain_read}
use Rattle.guard_bytes.proofs.guard_in.Goals as goal

pub returns : goal.returns
returns c =
    let pre = c.requires in
    let a = c.args in
    plain_read a.file.now a.most a.parameters a.clocks a.at _ _ _ _ _ _ _ pre.1.0 pre.1.1 c.number_at-constant.ensures
    c.head_right.ensures c.if-not-head_right.false c.in_ok-all.ensures (c.zeros_plain.ensures c.if-not-zeros_plain.false)
    c.last_word-word.ensures c.expr_in.ensures c.bound_of-bound.ensures
