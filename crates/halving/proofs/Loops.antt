-- The loop over the ranges of a box: the widest of those before i.
use Prim.Native.Nat.{ℕ, ◌+◌, ◌≤◌, ◌<◌}
use mathlib.Core.Path.{◌≡◌, refl}
use mathlib.Core.Bool.{Bool, true, false}
use mathlib.Core.List.{List}
use native.Mathlib.Omega.{arith}
use lib.Dec.{ltb}
use lib.ListN.{get_or}
use borrow.Author.Tests.{ltb-true, ltb-false}
use Rattle.expr.specs.Records.{PARAMETERS, blank_range}
use Rattle.expr.specs.declared.range.Range.{Range}
use Rattle.halving.specs.Halved.{Widest}
use Rattle.valuations.specs.Valuations.{width}

-- the range at w has `most` numbers at least, and those before i have no more
pub record WidestTo (rs : List Range) (i w most : ℕ) : Type 0 where
  pub few : i ≤ PARAMETERS
  pub place : w < PARAMETERS
  pub has : most ≤ width (get_or rs w blank_range)
  pub widest : (j : ℕ) → j < i → width (get_or rs j blank_range) ≤ most

module _ (rs : List Range) where
  pub widest_start : WidestTo rs 0 0 0
  widest_start = record { few = omega arith; place = omega arith; has = omega arith; widest = λ j h. absurd (omega arith) }

  module _ (i w most : ℕ) (s : WidestTo rs i w most) (h : i < PARAMETERS) (n : ℕ) (e : n ≡ width (get_or rs i blank_range)) where
    up_to : (a j : ℕ) → most ≤ a → n ≤ a → j < i + 1 → (b : Bool) → ltb j i ≡ b → width (get_or rs j blank_range) ≤ a
    up_to a j g k l true q = omega (arith, s.widest j (omega (arith, ltb-true)))
    up_to a j g k l false q =
        let same : j ≡ i = omega (arith, ltb-false) in
        rw same (omega (arith, e))

    pub widest_here : most < n → WidestTo rs (i + 1) i n
    widest_here g = record {
      few = omega arith;
      place = h;
      has = omega (arith, e);
      widest = λ j l. up_to n j (omega arith) (omega arith) l (ltb j i) refl;
    }

    pub widest_not : n ≤ most → WidestTo rs (i + 1) w most
    widest_not g = record {
      few = omega arith;
      place = s.place;
      has = s.has;
      widest = λ j l. up_to most j (omega arith) (omega arith) l (ltb j i) refl;
    }

  pub widest_all : (i w most : ℕ) → WidestTo rs i w most → (i < PARAMETERS → ⊥) → Widest w rs
  widest_all i w most s h = record { place = s.place; widest = λ j g. omega (arith, s.widest j (omega (arith, s.few)), s.has) }
