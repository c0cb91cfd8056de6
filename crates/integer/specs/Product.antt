-- The laws of the product of ℤ: as a ring, with the orders, and how large a product is.
use Rattle.std.specs.Prelude.{◌≡◌, ℕ, ◌+◌, ◌*◌, ◌^◌, ◌<◌, ◌≤◌, ℤ, pos, negsuc, neg_ℤ, ◌+ℤ◌, ◌-ℤ◌, ◌*ℤ◌, ◌≤ℤ◌}
use Rattle.std.proofs.Common.{ap, mul-le-mul, mul-le-mul_left, arith}
use Rattle.std.specs.Int.{Width, w16, w32, w64}
use mir.Val.{SFits, hbits}
use Rattle.integer.specs.Parts.{p, n, +-parts, -parts, *-parts, *-size, neg_parts, pos_parts, ≤-in, nonneg_part, nonpos_part, zs}
use Rattle.integer.specs.Split.{split, split-all}

-- ---- a ring (`*ℤ-comm`, `*ℤ-one` and `*ℤ-zero` are the library's)
pub *ℤ-assoc : (x y z : ℤ) → (x *ℤ y) *ℤ z ≡ x *ℤ (y *ℤ z)
*ℤ-assoc x y z = rw (split x, split y, split z) (simp split-all (omega arith))

pub *ℤ-distribl : (k x y : ℤ) → k *ℤ (x +ℤ y) ≡ (k *ℤ x) +ℤ (k *ℤ y)
*ℤ-distribl k x y = rw (split k, split x, split y) (simp split-all (omega arith))

pub *ℤ-distribr : (x y k : ℤ) → (x +ℤ y) *ℤ k ≡ (x *ℤ k) +ℤ (y *ℤ k)
*ℤ-distribr x y k = rw (split k, split x, split y) (simp split-all (omega arith))

pub *ℤ-distribl-sub : (k x y : ℤ) → k *ℤ (x -ℤ y) ≡ (k *ℤ x) -ℤ (k *ℤ y)
*ℤ-distribl-sub k x y = rw (split k, split x, split y) (simp split-all (omega arith))

pub *ℤ-distribr-sub : (x y k : ℤ) → (x -ℤ y) *ℤ k ≡ (x *ℤ k) -ℤ (y *ℤ k)
*ℤ-distribr-sub x y k = rw (split k, split x, split y) (simp split-all (omega arith))

pub negℤ-*ℤ : (x y : ℤ) → neg_ℤ x *ℤ y ≡ neg_ℤ (x *ℤ y)
negℤ-*ℤ x y = rw (split x, split y) (simp split-all (omega arith))

pub *ℤ-negℤ : (x y : ℤ) → x *ℤ neg_ℤ y ≡ neg_ℤ (x *ℤ y)
*ℤ-negℤ x y = rw (split x, split y) (simp split-all (omega arith))

-- ---- with the orders
pub *ℤ-mono-nonneg : (k : ℤ) {a b : ℤ} → pos 0 ≤ℤ k → a ≤ℤ b → (k *ℤ a) ≤ℤ (k *ℤ b)
*ℤ-mono-nonneg k {a} {b} h m =
    omega (
      zs,
      *-parts k a,
      *-parts k b,
      mul-le-mul_left (p k) (≤-in m),
      ap (λ (c : ℕ). c * p a) (nonneg_part h),
      ap (λ (c : ℕ). c * n a) (nonneg_part h),
      ap (λ (c : ℕ). c * p b) (nonneg_part h),
      ap (λ (c : ℕ). c * n b) (nonneg_part h),
    )

pub *ℤ-mono-nonpos : (k : ℤ) {a b : ℤ} → k ≤ℤ pos 0 → a ≤ℤ b → (k *ℤ b) ≤ℤ (k *ℤ a)
*ℤ-mono-nonpos k {a} {b} h m =
    omega (
      zs,
      *-parts k a,
      *-parts k b,
      mul-le-mul_left (n k) (≤-in m),
      ap (λ (c : ℕ). c * p a) (nonpos_part h),
      ap (λ (c : ℕ). c * n a) (nonpos_part h),
      ap (λ (c : ℕ). c * p b) (nonpos_part h),
      ap (λ (c : ℕ). c * n b) (nonpos_part h),
    )

-- ---- how large: a number within ±A has the size p x + n x ≤ A, and the reverse
pub size_in : {x : ℤ} {A : ℕ} → neg_ℤ (pos A) ≤ℤ x → x ≤ℤ pos A → p x + n x ≤ A
unfolding p n
size_in {x = pos a} {A} h k = omega zs
size_in {x = negsuc a} {A} h k = omega (zs, neg_parts (pos A))

pub size_low : {x : ℤ} {A : ℕ} → p x + n x ≤ A → neg_ℤ (pos A) ≤ℤ x
size_low {x} {A} h = omega (zs, neg_parts (pos A), pos_parts A)

pub size_high : {x : ℤ} {A : ℕ} → p x + n x ≤ A → x ≤ℤ pos A
size_high {x} {A} h = omega (zs, pos_parts A)

pub sum_size : (x y : ℤ) {A B : ℕ} → p x + n x ≤ A → p y + n y ≤ B → p (x +ℤ y) + n (x +ℤ y) ≤ A + B
sum_size x y {A} {B} h k =
    size_in (omega (zs, +-parts x y, neg_parts (pos (A + B)), pos_parts (A + B))) (omega (zs, +-parts x y, pos_parts (A + B)))

pub difference_size : (x y : ℤ) {A B : ℕ} → p x + n x ≤ A → p y + n y ≤ B → p (x -ℤ y) + n (x -ℤ y) ≤ A + B
difference_size x y {A} {B} h k =
    size_in (omega (zs, -parts x y, neg_parts (pos (A + B)), pos_parts (A + B))) (omega (zs, -parts x y, pos_parts (A + B)))

-- ±A times ±B is within ±(A * B)
pub product_size : (x y : ℤ) {A B : ℕ} → p x + n x ≤ A → p y + n y ≤ B → p (x *ℤ y) + n (x *ℤ y) ≤ A * B
product_size x y h k = rw *-size (mul-le-mul h k)

pub product_within : {x y : ℤ} {A B : ℕ} → neg_ℤ (pos A) ≤ℤ x → x ≤ℤ pos A → neg_ℤ (pos B) ≤ℤ y → y ≤ℤ pos B
    → (neg_ℤ (pos (A * B)) ≤ℤ (x *ℤ y)) × ((x *ℤ y) ≤ℤ pos (A * B))
product_within {x} {y} h₁ h₂ k₁ k₂ =
    (size_low (product_size x y (size_in h₁ h₂) (size_in k₁ k₂)), size_high (product_size x y (size_in h₁ h₂) (size_in k₁ k₂)))

-- ---- the range of a signed width, by the size
pub fits_size : {w : Width} {x : ℤ} → SFits w x → p x + n x ≤ 2 ^ hbits w
unfolding p n
fits_size {w} {x = pos a} h = omega (arith, h.sfits)
fits_size {w} {x = negsuc a} h = omega (arith, h.sfits)

pub size_fits : (w : Width) (x : ℤ) → p x + n x < 2 ^ hbits w → SFits w x
unfolding p n
size_fits w (pos a) h = record { sfits = omega arith }
size_fits w (negsuc a) h = record { sfits = omega arith }

pub product_fits : {x y : ℤ} → SFits w32 x → SFits w16 y → SFits w64 (x *ℤ y)
product_fits {x} {y} h k = size_fits w64 (x *ℤ y) (omega (arith, product_size x y (fits_size h) (fits_size k)))

pub product_range : {v w : Width} {x y : ℤ} → SFits v x → SFits w y
    → (neg_ℤ (pos (2 ^ hbits v * 2 ^ hbits w)) ≤ℤ (x *ℤ y)) × ((x *ℤ y) ≤ℤ pos (2 ^ hbits v * 2 ^ hbits w))
product_range {x} {y} h k =
    (size_low (product_size x y (fits_size h) (fits_size k)), size_high (product_size x y (fits_size h) (fits_size k)))

-- the size of a product of 32 and 16 bits
abbrev pub Small : ℤ → Type 0
Small x = (neg_ℤ (pos 70368744177664) ≤ℤ x) × (x ≤ℤ pos 70368744177664)
