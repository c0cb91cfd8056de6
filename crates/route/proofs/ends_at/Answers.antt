-- `route::ends_at` meets its contract: past the end `get_or` is its default. Assumes nothing.
use Prim.Native.Nat.{◌≤◌}
use mathlib.Core.Path.{◌≡◌, refl}
use native.Mathlib.Omega.{arith}
use lib.ListN.{length, get_or-eq_default}
use Rattle.route.specs.Route.{ends_at}
use Rattle.automaton.specs.Automaton.{no_transition}
use borrow.Author.Rules.{rules}
use Rattle.route.proofs.ends_at.Goals as goal

pub returns-then-i-lt32 : goal.returns-then-i-lt32
unfolding ends_at
returns-then-i-lt32 c = refl

pub returns-else-i-lt32 : goal.returns-else-i-lt32
unfolding ends_at
returns-else-i-lt32 c =
    let long : length c.args.transition ≡ 32 = search rules in
    let h : length c.args.transition ≤ c.args.number = omega arith in
    simp (get_or-eq_default c.args.transition no_transition h)
