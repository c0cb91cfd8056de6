-- The most that an inequality can be in some ranges, for any number of parameters.
use Rattle.std.specs.Prelude.{◌≡◌, refl, List, [], ◌∷◌, Bool, true, false, cond, ℤ, pos, ◌+ℤ◌, ◌*ℤ◌, ◌≤ℤ◌}
use Rattle.std.specs.Int.Signed.{le_z, ≤ℤ_refl}
use Rattle.integer.specs.Order.{zts, le_z_true, +ℤ-mono}
use Rattle.integer.specs.Product.{*ℤ-mono-nonneg, *ℤ-mono-nonpos}
use Rattle.expr.specs.Affine.{Affine, dot}
use Rattle.expr.specs.Ranges.{In, Inside}
use Rattle.expr.specs.declared.range.Range.{Range}

-- the most that coefficient × parameter can be in a range
abbrev pub best : ℤ → Range → ℤ
best c r = cond (le_z (pos 0) c) (c *ℤ r.high) (c *ℤ r.low)

-- the end of a range at which it is that
abbrev pub end_of : ℤ → Range → ℤ
end_of c r = cond (le_z (pos 0) c) r.high r.low

-- the most that a sum of them can be
unfoldable pub best_sum : List ℤ → List Range → ℤ
best_sum [] rs = pos 0
best_sum (c ∷ cs) [] = pos 0
best_sum (c ∷ cs) (r ∷ rs) = best c r +ℤ best_sum cs rs

-- the most that an expression can be where every parameter lies in its range
unfoldable pub best_of : Affine → List Range → ℤ
best_of e rs = e.constant +ℤ best_sum e.coefs rs

-- ---- it is the most
best_in : (c x : ℤ) (r : Range) (b : Bool) → le_z (pos 0) c ≡ b → In x r → (c *ℤ x) ≤ℤ cond b (c *ℤ r.high) (c *ℤ r.low)
best_in c x r true e h = *ℤ-mono-nonneg c (le_z_true e) h.most
best_in c x r false e h = *ℤ-mono-nonpos c (omega zts) h.least

pub best_most : (c x : ℤ) (r : Range) → In x r → (c *ℤ x) ≤ℤ best c r
best_most c x r h = best_in c x r (le_z (pos 0) c) refl h

pub best_sum_most : (cs v : List ℤ) (rs : List Range) → Inside v rs → dot cs v ≤ℤ best_sum cs rs
unfolding dot best_sum
best_sum_most [] v rs h = ≤ℤ_refl (pos 0)
best_sum_most (c ∷ cs) [] [] h = ≤ℤ_refl (pos 0)
best_sum_most (c ∷ cs) [] (r ∷ rs) h = absurd h
best_sum_most (c ∷ cs) (x ∷ v) [] h = absurd h
best_sum_most (c ∷ cs) (x ∷ v) (r ∷ rs) h = +ℤ-mono (best_most c x r h.0) (best_sum_most cs v rs h.1)
