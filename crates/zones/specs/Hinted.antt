-- What is known of a zone before its tests, and what is learned by them.
use Rattle.std.specs.Prelude.{◌≡◌, true, List, map, ℤ, take}
use Rattle.expr.specs.Affine.{Affine}
use Rattle.expr.specs.Ranges.{Inside}
use Rattle.expr.specs.Records.{affine, range_list}
use Rattle.expr.specs.declared.bound.Test.{Test}
use Rattle.expr.specs.declared.bound.Test.TheVariants.{Yes, No, Ask}
use Rattle.expr.specs.declared.number.Expr.{Expr}
use Rattle.expr.specs.declared.number.Valuation.{Valuation}
use Rattle.expr.specs.declared.range.Ranges.{Ranges}
use Rattle.nogoods.specs.Nogoods.{Below, with_c}
use Rattle.systems.specs.Boxes.{Narrows}
use Rattle.valuations.specs.Valuations.{satisfies}
use Rattle.zones.specs.Settled.{opposite_c}
use Rattle.zones.specs.declared.hint.Hint.{Hint}
use Rattle.zones.specs.declared.told.Told.{Told}
use Rattle.zones.specs.declared.told.Told.TheVariants as kinds
use Rattle.zones.specs.declared.zone.Zone.{Zone}

-- a zone's inequalities
abbrev pub exprs_of : Zone → List Affine
exprs_of z = map affine (take z.count z.ineqs)

-- the guess of h, where that is sure of it, is a valuation of its ranges that the zone's inequalities hold at
abbrev pub Guessed : Zone → Hint → Type 0
Guessed z h = h.sure ≡ true
    → Inside h.guess.numbers (range_list h.ranges) × (satisfies (exprs_of z) h.guess.numbers ≡ true)

-- the nogoods of h are below 0 at every valuation of its ranges that the zone's inequalities hold at, and its guess is right
pub record Trusted (z : Zone) (h : Hint) : Type 0 where
  pub nogoods : (v : List ℤ) → Inside v (range_list h.ranges) → satisfies (exprs_of z) v ≡ true → Below h.nogoods.list v
  pub guess : Guessed z h

-- the ranges of h are those of b that the zone's inequalities leave
pub record Hinted (b : Ranges) (z : Zone) (h : Hint) : Type 0 where
  pub narrows : Narrows (exprs_of z) (range_list b) (range_list h.ranges)
  pub trusted : Trusted z h

-- one more nogood
abbrev pub learned_c : Hint → Expr → Hint
learned_c h e =
    record { ranges = h.ranges; guess = h.guess; sure = h.sure; other = h.other; nogoods = with_c h.nogoods e }

-- another valuation
abbrev pub found_c : Hint → Valuation → Hint
found_c h v = record { ranges = h.ranges; guess = h.guess; sure = h.sure; other = v; nogoods = h.nogoods }

-- what a verdict on a test says: where it is no the test is a nogood, where it is yes its opposite
abbrev pub noted_by : Hint → Expr → Told → Hint
noted_by h e kinds.No = learned_c h e
noted_by h e kinds.Yes = learned_c h (opposite_c e)
noted_by h e kinds.Split = h
noted_by h e kinds.Full = h
noted_by h e (kinds.Other n) = h

unfoldable pub noted_c : Hint → Test → Told → Hint
noted_c h Yes kind = h
noted_c h No kind = h
noted_c h (Ask e) kind = noted_by h e kind
