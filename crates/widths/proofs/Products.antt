-- Products that end at the largest usize.
use mathlib.Core.Path.{◌≡◌, refl, sym, ap, ◌∙◌}
use mathlib.Core.Bool.{Bool, true, false}
use mathlib.Core.List.{List}
use Prim.Native.Nat.{ℕ, zero, suc, ◌+◌, ◌*◌, ◌≤◌, ◌<◌, min}
use native.Mathlib.Nat.{mul_assoc}
use native.Mathlib.Numerals.{add-one}
use native.Mathlib.Omega.{arith}
use lib.Dec.{ltb}
use lib.ListN.{length, get_or, drop, drop_of_length-le}
use lib.Seq.{drop-cons}
use borrow.Author.Tests.{ltb-true, ltb-false}
use Rattle.expr.specs.Records.{blank_range}
use Rattle.expr.specs.declared.range.Range.{Range}
use Rattle.valuations.specs.Valuations.{width, widths}
use Rattle.widths.specs.Cap.{CAP}

cap_large : (p y : ℕ) (b : Bool) → ltb CAP p ≡ b → min (min p CAP * suc y) CAP ≡ min (p * suc y) CAP
cap_large p y true e =
    let h : min p CAP ≡ CAP = omega (arith, ltb-true) in
    rw h (omega (arith, ltb-true))
cap_large p y false e =
    let h : min p CAP ≡ p = omega (arith, ltb-false) in
    rw h refl

-- a product that was capped, times one more
cap_times : (t w x : ℕ) → min (min (t * w) CAP * x) CAP ≡ min (t * (w * x)) CAP
cap_times t w zero = omega arith
cap_times t w (suc y) = cap_large (t * w) y (ltb CAP (t * w)) refl ∙ ap (λ (k : ℕ). min k CAP) (mul_assoc t w (suc y))

-- ---- the product of a box's widths, with what is left from i on
pub volume_turn : (rs : List Range) (i t u w : ℕ) → i < length rs → w ≡ width (get_or rs i blank_range) → u ≡ min (t * w) CAP
    → min (t * widths (drop i rs)) CAP ≡ min (widths rs) CAP → min (u * widths (drop (i + 1) rs)) CAP ≡ min (widths rs) CAP
unfolding widths
volume_turn rs i t u w h e f k =
    ap (λ (z : ℕ). min (z * widths (drop (i + 1) rs)) CAP) f
    ∙ cap_times t w (widths (drop (i + 1) rs))
    ∙ ap (λ (z : ℕ). min (t * z) CAP) (ap (λ (z : ℕ). z * widths (drop (i + 1) rs)) e ∙ sym step)
    ∙ k
  where
    step : widths (drop i rs) ≡ width (get_or rs i blank_range) * widths (drop (i + 1) rs)
    step = rw (drop-cons rs i blank_range h, add-one) refl

pub volume_all : (rs : List Range) (i t : ℕ) → length rs ≤ i → t ≤ CAP → min (t * widths (drop i rs)) CAP ≡ min (widths rs) CAP
    → t ≡ min (widths rs) CAP
unfolding widths
volume_all rs i t h g k =
    let e : widths (drop i rs) ≡ 1 = rw (drop_of_length-le rs h) refl in
    let q : min (t * 1) CAP ≡ min (widths rs) CAP = rw e at k in
    omega arith
