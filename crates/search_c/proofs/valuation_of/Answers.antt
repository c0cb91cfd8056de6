-- The loop's invariant: the places before i hold the numbers of the input.
use mathlib.Core.Path.{◌∙◌}
use native.Mathlib.Omega.{arith}
use lib.IntN.{pos}
use mir.Syntax.{w16}
use mir.Val.{SFits}
use mir.ValLaws.{to_z-of_z}
use Rattle.search_c.specs.Input.{number_at}
use Rattle.search_c.proofs.Filled.{filled_start, filled_turn, filled_all, valuation_is}
use borrow.Author.Rules.{rules}
use Rattle.search_c.proofs.valuation_of.Goals as goal

pub loop-i-init : goal.loop-i-init
loop-i-init c = (omega arith, filled_start _ _)

pub loop-i-preserved : goal.loop-i-preserved
loop-i-preserved c =
    let loop = c.loop-i in
    let f : SFits w16 c.number.result = search rules in (
      omega arith,
      filled_turn (pos 0) (number_at c.args.s.now) loop.i _ _ loop.invariant.1
          (to_z-of_z w16 _ f ∙ c.number.ensures),
    )

pub returns : goal.returns
returns c =
    let loop = c.loop-i in
    valuation_is _ _ (filled_all (pos 0) (number_at c.args.s.now) loop.i _ loop.invariant.1 loop.invariant.0
    (search rules))
