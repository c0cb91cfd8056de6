-- A test is at most one more.
use native.Mathlib.Omega.{arith}
use Rattle.parts.proofs.Steps.{tests_few}
use Rattle.running.proofs.tests.counted.Goals as goal

pub overflow_add-result : goal.overflow_add-result
overflow_add-result c =
    let few = tests_few c.args.t in
    omega (arith, c.min.ensures, c.tests_in.ensures, few)
