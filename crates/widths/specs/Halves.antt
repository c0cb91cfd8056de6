-- A range in two: its first n numbers, and the others.
use Rattle.std.specs.Prelude.{◌≡◌, refl, ◌⊎◌, Bool, true, false, ℕ, zero, suc, ◌+◌, ◌-◌, ◌≤◌, ◌<◌, ℤ, pos, ◌+ℤ◌, ◌-ℤ◌, ◌≤ℤ◌, ◌<ℤ◌}
use Rattle.std.proofs.Common.{ap, ◌∙◌, inl, inr, arith}
use Rattle.std.proofs.Math.IntN.{+ℤ_idr}
use Rattle.std.specs.Int.Signed.{le_z}
use Rattle.integer.specs.Order.{le_z_true, le_z_false}
use Rattle.integer.specs.Parts.{p}
use Rattle.integer.specs.Split.{split, split-all}
use Rattle.expr.specs.Ranges.{In}
use Rattle.expr.specs.declared.range.Range.{Range}
use Rattle.valuations.specs.SearchLaws.{width_in, width_zero, width_suc}
use Rattle.valuations.specs.Valuations.{width}

-- the first n numbers of a range
abbrev pub lower_of : Range → ℕ → Range
lower_of r n = record { low = r.low; high = r.low +ℤ pos (n - 1) }

-- its numbers but for the first n
abbrev pub upper_of : Range → ℕ → Range
upper_of r n = record { low = r.low +ℤ pos n; high = r.high }

-- ---- how many numbers each has
pub width_lower : (r : Range) (n : ℕ) → 0 < n → width (lower_of r n) ≡ n
unfolding width p
width_lower r n h = ap p (ends r.low (n - 1)) ∙ omega arith
  where
    ends : (l : ℤ) (k : ℕ) → ((l +ℤ pos k) +ℤ pos 1) -ℤ l ≡ pos (suc k)
    ends l k = rw (split l) (simp split-all (omega arith))

width_from : (n : ℕ) (l h : ℤ) → n ≤ width (record { low = l; high = h })
    → width (record { low = l +ℤ pos n; high = h }) + n ≡ width (record { low = l; high = h })
width_from zero l h g = rw (+ℤ_idr l) (omega arith)
width_from (suc n) l h g = by (le_z l h) refl (λ k. width_from n (l +ℤ pos 1) h k)
  where
    next : (l : ℤ) (n : ℕ) → l +ℤ pos (suc n) ≡ (l +ℤ pos 1) +ℤ pos n
    next l n = rw (split l) (simp split-all (omega arith))

    by : (b : Bool) → le_z l h ≡ b
        → (n ≤ width (record { low = l +ℤ pos 1; high = h })
        → width (record { low = (l +ℤ pos 1) +ℤ pos n; high = h }) + n ≡ width (record { low = l +ℤ pos 1; high = h }))
        → width (record { low = l +ℤ pos (suc n); high = h }) + suc n ≡ width (record { low = l; high = h })
    by true e ih =
        let s = width_suc l h (le_z_true e) in
        let i = ih (omega (arith, s)) in
        rw (next l n) (omega (arith, s, i))
    by false e ih = absurd (omega (arith, width_zero (record { low = l; high = h }) (le_z_false e)))

pub width_upper : (r : Range) (n : ℕ) → n ≤ width r → width (upper_of r n) + n ≡ width r
width_upper r n h = width_from n r.low r.high h

-- ---- which
module _ (r : Range) (n : ℕ) (some : 0 < n) (few : n < width r) where
  pub lower_in : (x : ℤ) → In x (lower_of r n) → In x r
  lower_in x h =
      let t = (width_in (lower_of r n) x).0 h in
      (width_in r x).1 (t.0, more r.low x (width (lower_of r n)) (width r) (omega (arith, width_lower r n some)) t.1)
    where
      more : (l x : ℤ) (a b : ℕ) → a ≤ b → x <ℤ (l +ℤ pos a) → x <ℤ (l +ℤ pos b)
      more l x a b = rw (split l, split x) (simp split-all (omega arith))

  pub upper_in : (x : ℤ) → In x (upper_of r n) → In x r
  upper_in x h = record { least = up r.low x n h.least; most = h.most }
    where
      up : (l x : ℤ) (k : ℕ) → (l +ℤ pos k) ≤ℤ x → l ≤ℤ x
      up l x k = rw (split l, split x) (simp split-all (omega arith))

  -- each number is in one of them
  pub halves_in : (x : ℤ) → In x r → In x (lower_of r n) ⊎ In x (upper_of r n)
  halves_in x h = by (le_z (r.low +ℤ pos n) x) refl
    where
      by : (b : Bool) → le_z (r.low +ℤ pos n) x ≡ b → In x (lower_of r n) ⊎ In x (upper_of r n)
      by true e = inr (record { least = le_z_true e; most = h.most })
      by false e =
          let e' : x <ℤ (r.low +ℤ pos (width (lower_of r n))) = rw (width_lower r n some) (le_z_false e) in
          inl ((width_in (lower_of r n) x).1 (h.least, e'))
