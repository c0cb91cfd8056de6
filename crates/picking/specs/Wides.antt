-- Ranges of several numbers: how many they are.
use Rattle.std.specs.Prelude.{◌≡◌, refl, Bool, true, false, cond, List, [], ◌∷◌, ℕ, zero, suc, ◌+◌, ◌≤◌, ◌<◌, ℤ, length, set}
use Rattle.std.proofs.Common.{arith}
use Rattle.std.specs.Int.Signed.{lt_z, ≤ℤ_refl, clash_ℤ}
use Rattle.integer.specs.Order.{lt_z_true, lt_z_false, true_lt_z, false_lt_z}
use Rattle.expr.specs.Ranges.{In}
use Rattle.expr.specs.declared.range.Range.{Range}
use Rattle.corners.specs.Boxes.{point_of, Wide}
use Rattle.narrowing.specs.Cut.{Within}
use Rattle.systems.specs.BoxLaws.{points_within}

-- how many of them have
unfoldable pub wides : List Range → ℕ
wides [] = 0
wides (r ∷ rs) = cond (lt_z r.low r.high) 1 0 + wides rs

-- ---- narrower ranges have fewer
one_within : (r s : Range) → ((x : ℤ) → In x s → In x r) → cond (lt_z s.low s.high) 1 0 ≤ cond (lt_z r.low r.high) 1 0
one_within r s h = by (lt_z r.low r.high) refl (lt_z s.low s.high) refl
  where
    by : (a : Bool) → lt_z r.low r.high ≡ a → (b : Bool) → lt_z s.low s.high ≡ b → cond b 1 0 ≤ cond a 1 0
    by true e true f = omega arith
    by true e false f = omega arith
    by false e false f = omega arith
    by false e true f = absurd (clash_ℤ (lt_z_true f) (points_within 1 (r ∷ []) (s ∷ []) (h, tt) (lt_z_false e, tt)).0)

pub wides_within : (ss rs : List Range) → Within ss rs → wides ss ≤ wides rs
unfolding wides
wides_within [] [] h = omega arith
wides_within [] (r ∷ rs) h = absurd h
wides_within (s ∷ ss) [] h = absurd h
wides_within (s ∷ ss) (r ∷ rs) h = omega (arith, one_within r s h.0, wides_within ss rs h.1)

-- ---- a number put in for one of them leaves fewer
pub wides_put : (w : ℕ) (rs : List Range) (x : ℤ) → w < length rs → Wide w rs → wides (set rs w (point_of x)) < wides rs
unfolding wides
wides_put w [] x h g = absurd (omega arith)
wides_put zero (r ∷ rs) x h g = rw (true_lt_z g, false_lt_z (≤ℤ_refl x)) (omega arith)
wides_put (suc w) (r ∷ rs) x h g = omega (arith, wides_put w rs x (omega arith) g)
