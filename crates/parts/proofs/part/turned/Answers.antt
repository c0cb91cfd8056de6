-- Each field by its own function.
use native.Mathlib.Omega.{arith}
use Rattle.parts.proofs.Steps.{tests_few, turn_is}
use Rattle.parts.proofs.part.turned.Goals as goal

pub overflow_add-result : goal.overflow_add-result
overflow_add-result c =
    let few = tests_few c.args.t in
    omega (arith, c.min.ensures, c.tests_in.ensures, few)

pub returns : goal.returns
returns c =
    let a = c.args in
    turn_is a.phase a.tests a.test a.was a.t a.via a.kind _ c.after-next.ensures _
    c.min.ensures _ c.tests_in.ensures _ c.question_after.ensures _ c.entry_after.ensures
