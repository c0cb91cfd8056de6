-- `guard_at` meets its contract: code and definition are one composition. Assumes nothing.
use Rattle.guards.specs.Guards.{guard_at}
use Rattle.guard_fields.proofs.guard_at.Goals as goal

pub returns : goal.returns
unfolding guard_at
returns c =
    let all = c.before.before.before in
    let constant = all.before in
    let zero = constant.before in
    let relation = zero.before in
    let b = relation.before in
    let a = b.before in
    simp (
      c.zeros_at.ensures,
      c.bound_of-bound.ensures,
      c.expr_of-expr.ensures,
      all.coefs_at-all.ensures,
      constant.signed_field-constant.ensures,
      zero.byte_field-zero.ensures,
      relation.byte_field-relation.ensures,
      b.right_field-right.ensures,
      a.byte_field-left.ensures,
    )
