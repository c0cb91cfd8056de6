-- A tightest bound is unique: two weights that are both tightest for the same two clocks are equal. So `TightestAlong` names at most one
-- weight.
use Rattle.std.specs.Prelude.{◌≡◌, refl, ◌⊎◌, List, true, false, ℕ, ◌≤◌, ℤ, pos, ◌+ℤ◌, ◌-ℤ◌, ◌*ℤ◌, ◌≤ℤ◌, ◌<ℤ◌}
use Rattle.std.proofs.Common.{ap, inl, inr, mul-le-mul_left, arith}
use Rattle.integer.specs.Order.{≤ℤ-total, ≤ℤ-antisym, <ℤ→≤ℤ}
use Rattle.integer.specs.Parts.{p, n, +-parts, -parts, *-parts, <-in, zs}
use Rattle.integer.specs.Product.{*ℤ-mono-nonneg}
use Rattle.weight.specs.Upper.{Upper, none, upper}
use Rattle.sheet.specs.declared.Sheet.{Sheet}
use Rattle.timed.specs.Runs.{TightestAlong, difference}

-- a smaller number of minutes is smaller by a whole minute
minute_more : (D : ℕ) (c d : ℤ) → c <ℤ d → ((pos D *ℤ c) +ℤ pos D) ≤ℤ (pos D *ℤ d)
unfolding p n
minute_more D c d h = omega (
  zs,
  *-parts (pos D) c,
  *-parts (pos D) d,
  +-parts (pos D *ℤ c) (pos D),
  mul-le-mul_left D (<-in h),
)

-- the same, where at least one part makes a minute
less_minutes : (D : ℕ) (c d : ℤ) → 1 ≤ D → c <ℤ d → (pos D *ℤ c) <ℤ (pos D *ℤ d)
unfolding p n
less_minutes D c d g h = omega (zs, minute_more D c d h, +-parts (pos D *ℤ c) (pos D))

-- nothing at most D * c is less than a minute below D * d
too_far : (D : ℕ) (c d t : ℤ) → c <ℤ d → t ≤ℤ (pos D *ℤ c) → (pos 1 *ℤ ((pos D *ℤ d) -ℤ t)) <ℤ pos D → ⊥
unfolding p n
too_far D c d t h k g = omega (
  zs,
  minute_more D c d h,
  +-parts (pos D *ℤ c) (pos D),
  *-parts (pos 1) ((pos D *ℤ d) -ℤ t),
  -parts (pos D *ℤ d) t,
)

-- as many minutes or more
minutes-≤ : (D : ℕ) (c d : ℤ) → c ≤ℤ d → (pos D *ℤ c) ≤ℤ (pos D *ℤ d)
unfolding p n
minutes-≤ D c d h = *ℤ-mono-nonneg (pos D) (omega zs) h

module _ (s : Sheet) (route : List ℕ) (v : List ℤ) (i j : ℕ) where
  -- none goes with no other weight
  none-not-≤ : (c : ℤ) → TightestAlong s route v i j none → TightestAlong s route v i j (upper false c) → ⊥
  none-not-≤ c a b = let (r, h) = a c in let k = b.0 r in omega zs

  none-not-< : (c : ℤ) → TightestAlong s route v i j none → TightestAlong s route v i j (upper true c) → ⊥
  none-not-< c a b = let (r, h) = a c in let k = b.0 r in omega zs

  -- a number that is reached is no more than one that all runs meet
  reached-≤ : (c d : ℤ) → TightestAlong s route v i j (upper false c) → TightestAlong s route v i j (upper false d) → (c ≤ℤ d) ⊎ (d <ℤ c)
      → c ≤ℤ d
  reached-≤ c d a b (inl h) = h
  reached-≤ c d a b (inr h) =
      let (r, e) = a.1 in
      let k = b.0 r in
      let l = less_minutes r.parts d c r.some_part h in
      absurd (omega zs)

  -- a number that is reached is none that is only approached
  reached-not-< : (c d : ℤ) → TightestAlong s route v i j (upper false c) → TightestAlong s route v i j (upper true d)
      → (d ≤ℤ c) ⊎ (c <ℤ d) → ⊥
  reached-not-< c d a b (inl h) =
      let (r, e) = a.1 in
      let k = b.0 r in
      let l = minutes-≤ r.parts d c h in
      omega zs
  reached-not-< c d a b (inr h) =
      let (r, g) = b.1 1 (omega arith) in
      too_far r.parts c d (difference i j r) h (a.0 r) g

  -- a number that is approached is no more than another that is
  near-≤ : (c d : ℤ) → TightestAlong s route v i j (upper true c) → TightestAlong s route v i j (upper true d) → (c ≤ℤ d) ⊎ (d <ℤ c)
      → c ≤ℤ d
  near-≤ c d a b (inl h) = h
  near-≤ c d a b (inr h) =
      let (r, g) = a.1 1 (omega arith) in
      absurd (too_far r.parts d c (difference i j r) h (<ℤ→≤ℤ (b.0 r)) g)

  by_weights : (a b : Upper ℤ) → TightestAlong s route v i j a → TightestAlong s route v i j b → a ≡ b
  by_weights none none h k = refl
  by_weights none (upper true d) h k = absurd (none-not-< d h k)
  by_weights none (upper false d) h k = absurd (none-not-≤ d h k)
  by_weights (upper true c) none h k = absurd (none-not-< c k h)
  by_weights (upper false c) none h k = absurd (none-not-≤ c k h)
  by_weights (upper true c) (upper true d) h k = ap (upper true)
      (≤ℤ-antisym (near-≤ c d h k (≤ℤ-total c d)) (near-≤ d c k h (≤ℤ-total d c)))
  by_weights (upper true c) (upper false d) h k = absurd (reached-not-< d c k h (≤ℤ-total c d))
  by_weights (upper false c) (upper true d) h k = absurd (reached-not-< c d h k (≤ℤ-total d c))
  by_weights (upper false c) (upper false d) h k = ap (upper false)
      (≤ℤ-antisym (reached-≤ c d h k (≤ℤ-total c d)) (reached-≤ d c k h (≤ℤ-total d c)))

pub tightest_unique : (s : Sheet) (route : List ℕ) (v : List ℤ) (i j : ℕ) (a b : Upper ℤ) → TightestAlong s route v i j a
    → TightestAlong s route v i j b → a ≡ b
tightest_unique s route v i j a b h k = by_weights s route v i j a b h k
