-- The branches are the signs of the slope, as in the definition.
use mathlib.Core.Path.{◌≡◌, refl, ap, ◌∙◌}
use mathlib.Core.Bool.{true, false, cond}
use Prim.Native.Nat.{zero, suc}
use native.Mathlib.Omega.{arith}
use lib.Dec.{ltb→lt}
use lib.IntN.{ℤ, pos, negsuc, neg_ℤ}
use lib.Signed.{le_z, ◌<ℤ◌}
use mir.Syntax.{w64}
use mir.ValLaws.{to_z-of_z}
use borrow.Author.Rules.{rules}
use Rattle.std.proofs.lemmas.Int.{ints}
use Rattle.integer.specs.Floor.{floor_z, floor_within}
use Rattle.expr.specs.declared.range.Range.{Range}
use Rattle.intervals.specs.Interval.{EMPTY, from, up_to, interval}
use Rattle.intervals.proofs.ranges.interval.Goals as goal

-- what a callee says of numbers that were passed as their bits
told : (f : ℤ → ℤ → ℤ) (r x y a b : ℤ) → r ≡ f a b → a ≡ x → b ≡ y → r ≡ f x y
told f r x y a b e g h = rw (g, h) at e

-- the cases of `interval`, by the slope's sign
interval_up : (r : Range) (c a : ℤ) → pos 0 <ℤ a → from r (neg_ℤ (floor_z c a)) ≡ interval r c a
unfolding interval
interval_up r c (pos zero) h = absurd h.lt
interval_up r c (pos (suc n)) h = refl
interval_up r c (negsuc n) h = absurd h.lt

interval_down : (r : Range) (c a : ℤ) → a <ℤ pos 0 → up_to r (floor_z (neg_ℤ c) a) ≡ interval r c a
unfolding interval
interval_down r c (pos zero) h = absurd h.lt
interval_down r c (pos (suc n)) h = absurd (omega (arith, ltb→lt (suc n) 0 h.lt))
interval_down r c (negsuc n) h = refl

interval_flat : (r : Range) (c a : ℤ) → a ≡ pos 0 → cond (le_z (pos 0) c) r EMPTY ≡ interval r c a
unfolding interval
interval_flat r c a h = rw h refl

pub overflow_sub-floor : goal.overflow_sub-floor
overflow_sub-floor c =
    let s = c.args in
    let tame = floor_within s.slope c.requires.0.0 c.requires.0.1 in
    let e = told floor_z _ s.constant s.slope _ _ c.floor.ensures (omega (arith, ints)) (omega (arith, ints)) in
    omega (arith, ints)

pub returns-then-slope-gt0 : goal.returns-then-slope-gt0
returns-then-slope-gt0 c =
    let s = c.args in
    let tame = floor_within s.slope c.requires.0.0 c.requires.0.1 in
    let e = told floor_z _ s.constant s.slope _ _ c.floor.ensures (omega (arith, ints)) (omega (arith, ints)) in
    c.from.ensures ∙ ap (from s.r) (omega (arith, ints)) ∙ interval_up s.r s.constant s.slope (grind (arith, ints))

pub returns-then-slope-lt0 : goal.returns-then-slope-lt0
returns-then-slope-lt0 c =
    let s = c.args in
    let floor = c.floor-then-slope-lt0 in
    c.up_to.ensures
    ∙ ap (up_to s.r) (to_z-of_z w64 floor.result (search rules)
    ∙ told floor_z _ (neg_ℤ s.constant) s.slope _ _ floor.ensures (omega (arith, ints)) (omega (arith, ints)))
    ∙ interval_down s.r s.constant s.slope (grind (arith, ints))

pub returns-then-constant-ge0 : goal.returns-then-constant-ge0
returns-then-constant-ge0 c =
    let s = c.args in
    let e : le_z (pos 0) s.constant ≡ true = grind (arith, ints) in
    rw e at (interval_flat s.r s.constant s.slope (grind (arith, ints)))

pub returns : goal.returns
returns c =
    let s = c.args in
    let e : le_z (pos 0) s.constant ≡ false = grind (arith, ints) in
    rw e at (interval_flat s.r s.constant s.slope (grind (arith, ints)))
