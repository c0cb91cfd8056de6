-- The laws of `Boxes`: what stands before the first range of several numbers has one at most.
use Rattle.std.specs.Prelude.{◌≡◌, refl, Bool, true, false, cond, List, [], ◌∷◌, ℕ, zero, suc, ◌+◌, ◌≤◌, ◌<◌, ltb, pos, get_or, ◌≤ℤ◌}
use Rattle.std.specs.Prelude.{Option, None, Some}
use Rattle.std.proofs.Common.{arith, ltb-true, ltb-false}
use Rattle.std.specs.Int.Signed.{lt_z, ≤ℤ_refl}
use Rattle.integer.specs.Apart.{apart}
use Rattle.integer.specs.Order.{lt_z_true, lt_z_false}
use Rattle.expr.specs.Records.{blank_range}
use Rattle.expr.specs.declared.range.Range.{Range}
use Rattle.corners.specs.Boxes.{Points, Wide, wide_from}

-- ---- ranges of one number at most, place by place
pub points_at : (k : ℕ) (rs : List Range) (j : ℕ) → Points k rs → j < k → (get_or rs j blank_range).high ≤ℤ (get_or rs j blank_range).low
points_at zero rs j p h = absurd (omega arith)
points_at (suc k) [] j p h = ≤ℤ_refl (pos 0)
points_at (suc k) (r ∷ rs) zero p h = p.0
points_at (suc k) (r ∷ rs) (suc j) p h = points_at k rs j p.1 (omega arith)

pub points_all : (k : ℕ) (rs : List Range) → ((j : ℕ) → j < k → (get_or rs j blank_range).high ≤ℤ (get_or rs j blank_range).low) → Points k rs
points_all zero rs h = tt
points_all (suc k) [] h = tt
points_all (suc k) (r ∷ rs) h = (h 0 (omega arith), points_all k rs (λ j g. h (suc j) (omega arith)))

-- ---- the first range of several numbers
pub wide_low : (rs : List Range) (n i w : ℕ) → wide_from rs i n ≡ Some w → i ≤ w
unfolding wide_from
wide_low rs zero i w h = apart cc
wide_low rs (suc n) i w h = by (lt_z (get_or rs i blank_range).low (get_or rs i blank_range).high) h (wide_low rs n (suc i) w)
  where
    by : (b : Bool) → cond b (Some i) (wide_from rs (suc i) n) ≡ Some w → (wide_from rs (suc i) n ≡ Some w → suc i ≤ w) → i ≤ w
    by true h k = let e : i ≡ w = cc in omega arith
    by false h k = omega (arith, k h)

pub wide_high : (rs : List Range) (n i w : ℕ) → wide_from rs i n ≡ Some w → w < i + n
unfolding wide_from
wide_high rs zero i w h = apart cc
wide_high rs (suc n) i w h = by (lt_z (get_or rs i blank_range).low (get_or rs i blank_range).high) h (wide_high rs n (suc i) w)
  where
    by : (b : Bool) → cond b (Some i) (wide_from rs (suc i) n) ≡ Some w → (wide_from rs (suc i) n ≡ Some w → w < suc i + n) → w < i + suc n
    by true h k = let e : i ≡ w = cc in omega arith
    by false h k = omega (arith, k h)

-- it has several numbers
pub wide_there : (rs : List Range) (n i w : ℕ) → wide_from rs i n ≡ Some w → Wide w rs
unfolding wide_from
wide_there rs zero i w h = apart cc
wide_there rs (suc n) i w h = by (lt_z (get_or rs i blank_range).low (get_or rs i blank_range).high) refl h (wide_there rs n (suc i) w)
  where
    by : (b : Bool) → lt_z (get_or rs i blank_range).low (get_or rs i blank_range).high ≡ b
        → cond b (Some i) (wide_from rs (suc i) n) ≡ Some w → (wide_from rs (suc i) n ≡ Some w → Wide w rs) → Wide w rs
    by true e h ih = let q : i ≡ w = cc in rw (← q) (lt_z_true e)
    by false e h ih = ih h

-- place j lies before what was found, or before the end of the n places where nothing was
abbrev Passed : Option ℕ → ℕ → ℕ → Type 0
Passed None end j = j < end
Passed (Some w) end j = j < w

-- the ranges between have one number at most
wide_passed : (rs : List Range) (n i j : ℕ) → i ≤ j → Passed (wide_from rs i n) (i + n) j
    → (get_or rs j blank_range).high ≤ℤ (get_or rs j blank_range).low
unfolding wide_from
wide_passed rs zero i j g h = absurd (omega arith)
wide_passed rs (suc n) i j g h =
    by (lt_z (get_or rs i blank_range).low (get_or rs i blank_range).high) refl (ltb i j) refl h (wide_passed rs n (suc i) j)
  where
    end : suc i + n ≡ i + suc n
    end = omega arith

    by : (b : Bool) → lt_z (get_or rs i blank_range).low (get_or rs i blank_range).high ≡ b → (d : Bool) → ltb i j ≡ d
        → Passed (cond b (Some i) (wide_from rs (suc i) n)) (i + suc n) j
        → (suc i ≤ j → Passed (wide_from rs (suc i) n) (suc i + n) j → (get_or rs j blank_range).high ≤ℤ (get_or rs j blank_range).low)
        → (get_or rs j blank_range).high ≤ℤ (get_or rs j blank_range).low
    by true e d q k ih = absurd (omega arith)
    by false e true q k ih = ih (omega (arith, ltb-true)) (rw end k)
    by false e false q k ih =
        let same : j ≡ i = omega (arith, ltb-false) in
        rw same (lt_z_false e)

pub wide_between : (rs : List Range) (n i j w : ℕ) → wide_from rs i n ≡ Some w → i ≤ j → j < w
    → (get_or rs j blank_range).high ≤ℤ (get_or rs j blank_range).low
wide_between rs n i j w e g h = wide_passed rs n i j g (rw e h)

-- where there is none, all have
pub wide_nowhere : (rs : List Range) (n i j : ℕ) → wide_from rs i n ≡ None → i ≤ j → j < i + n
    → (get_or rs j blank_range).high ≤ℤ (get_or rs j blank_range).low
wide_nowhere rs n i j e g h = wide_passed rs n i j g (rw e h)

-- those before it, if those before the start have
pub wide_points : (rs : List Range) (n i w : ℕ) → wide_from rs i n ≡ Some w → Points i rs → Points w rs
wide_points rs n i w f p = points_all w rs (λ j h. by j (ltb j i) refl h)
  where
    by : (j : ℕ) (b : Bool) → ltb j i ≡ b → j < w → (get_or rs j blank_range).high ≤ℤ (get_or rs j blank_range).low
    by j true e h = points_at i rs j p (omega (arith, ltb-true))
    by j false e h = wide_between rs n i j w f (omega (arith, ltb-false)) h

-- where there is none, all, if those before the start have
pub none_points : (rs : List Range) (n i : ℕ) → wide_from rs i n ≡ None → Points i rs → Points (i + n) rs
none_points rs n i f p = points_all (i + n) rs (λ j h. by j (ltb j i) refl h)
  where
    by : (j : ℕ) (b : Bool) → ltb j i ≡ b → j < i + n → (get_or rs j blank_range).high ≤ℤ (get_or rs j blank_range).low
    by j true e h = points_at i rs j p (omega (arith, ltb-true))
    by j false e h = wide_nowhere rs n i j f (omega (arith, ltb-false)) h
