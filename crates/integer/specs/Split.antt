-- Split and simplify: a goal that is linear over ℤ, with its Bool tests, its equations and `SFits`, becomes one over ℕ, which `omega`
-- decides. Each integer variable is split into its parts, `x ≡ p x ⊖ n x`, and the rules of `split-all` push the differences out of every
-- operation and order: `lemma x y = rw (split x, split y) (simp split-all (omega arith))`, the hypotheses being arrows of the goal.
use Rattle.std.specs.Prelude.{◌≡◌, ◌↔◌, true, false, ℕ, suc, ◌+◌, ◌*◌, ◌^◌, ◌<◌, ◌≤◌, ℤ, pos, negsuc, neg_ℤ, ◌+ℤ◌, ◌-ℤ◌, ◌*ℤ◌, ◌≤ℤ◌, ◌<ℤ◌}
use Rattle.std.proofs.Common.{ap, arith}
use Rattle.std.specs.Int.Signed.{le_z, lt_z}
use Rattle.std.specs.Int.{Width}
use mir.Val.{SFits, hbits}
use Rattle.integer.specs.Parts.{+-parts, -parts, neg_parts, *-parts, fits_in, fits_out, zs}
use Rattle.integer.specs.Order.{le_z_true, le_z_false, lt_z_true, lt_z_false, true_le_z, false_le_z, true_lt_z, false_lt_z}
pub use Rattle.integer.specs.Parts.{p, n}

-- a - b, for two naturals. It stays shut, so that the rules below find it
infixl 6 ◌⊖◌
unfoldable pub ◌⊖◌ : ℕ → ℕ → ℤ
a ⊖ b = pos a -ℤ pos b

-- what is known of a difference's parts
pub ⊖-parts : (a b : ℕ) → p (a ⊖ b) + b ≡ a + n (a ⊖ b)
unfolding ◌⊖◌ p n
⊖-parts a b = omega (arith, -parts (pos a) (pos b))

pub split : (x : ℤ) → x ≡ p x ⊖ n x
split x = omega (zs, ⊖-parts (p x) (n x))

-- ---- equality
pub ⊖-eq : (a b c d : ℕ) → a + d ≡ c + b → a ⊖ b ≡ c ⊖ d
⊖-eq a b c d h = omega (zs, ⊖-parts a b, ⊖-parts c d)

pub ⊖-eq-iff : (a b c d : ℕ) → (a ⊖ b ≡ c ⊖ d) ↔ (a + d ≡ c + b)
⊖-eq-iff a b c d = (λ h. omega (zs, ⊖-parts a b, ⊖-parts c d), ⊖-eq a b c d)

-- ---- the operations
pub ⊖-add : (a b c d : ℕ) → (a ⊖ b) +ℤ (c ⊖ d) ≡ (a + c) ⊖ (b + d)
⊖-add a b c d = omega (zs, ⊖-parts a b, ⊖-parts c d, ⊖-parts (a + c) (b + d), +-parts (a ⊖ b) (c ⊖ d))

pub ⊖-sub : (a b c d : ℕ) → (a ⊖ b) -ℤ (c ⊖ d) ≡ (a + d) ⊖ (b + c)
⊖-sub a b c d = omega (zs, ⊖-parts a b, ⊖-parts c d, ⊖-parts (a + d) (b + c), -parts (a ⊖ b) (c ⊖ d))

pub ⊖-neg : (a b : ℕ) → neg_ℤ (a ⊖ b) ≡ b ⊖ a
⊖-neg a b = omega (zs, ⊖-parts a b, ⊖-parts b a, neg_parts (a ⊖ b))

pub ⊖-mul : (a b c d : ℕ) → (a ⊖ b) *ℤ (c ⊖ d) ≡ (a * c + b * d) ⊖ (a * d + b * c)
⊖-mul a b c d = omega (
  zs,
  ⊖-parts (a * c + b * d) (a * d + b * c),
  *-parts (a ⊖ b) (c ⊖ d),
  ap (λ (k : ℕ). k * p (c ⊖ d)) (⊖-parts a b),
  ap (λ (k : ℕ). k * n (c ⊖ d)) (⊖-parts a b),
  ap (λ (k : ℕ). a * k) (⊖-parts c d),
  ap (λ (k : ℕ). b * k) (⊖-parts c d),
)

pub ⊖-pos : (a : ℕ) → pos a ≡ a ⊖ 0
unfolding p n
⊖-pos a = omega (zs, ⊖-parts a 0)

pub ⊖-negsuc : (a : ℕ) → negsuc a ≡ 0 ⊖ suc a
unfolding p n
⊖-negsuc a = omega (zs, ⊖-parts 0 (suc a))

-- ---- the orders
pub ⊖-le : (a b c d : ℕ) → ((a ⊖ b) ≤ℤ (c ⊖ d)) ↔ (a + d ≤ c + b)
⊖-le a b c d = (λ h. omega (zs, ⊖-parts a b, ⊖-parts c d), λ h. omega (zs, ⊖-parts a b, ⊖-parts c d))

pub ⊖-lt : (a b c d : ℕ) → ((a ⊖ b) <ℤ (c ⊖ d)) ↔ (a + d < c + b)
⊖-lt a b c d = (λ h. omega (zs, ⊖-parts a b, ⊖-parts c d), λ h. omega (zs, ⊖-parts a b, ⊖-parts c d))

-- ---- their tests
pub ⊖-leT : (a b c d : ℕ) → (le_z (a ⊖ b) (c ⊖ d) ≡ true) ↔ (a + d ≤ c + b)
⊖-leT a b c d = (λ h. (⊖-le a b c d).0 (le_z_true h), λ h. true_le_z ((⊖-le a b c d).1 h))

pub ⊖-leF : (a b c d : ℕ) → (le_z (a ⊖ b) (c ⊖ d) ≡ false) ↔ (c + b < a + d)
⊖-leF a b c d = (λ h. (⊖-lt c d a b).0 (le_z_false h), λ h. false_le_z ((⊖-lt c d a b).1 h))

pub ⊖-ltT : (a b c d : ℕ) → (lt_z (a ⊖ b) (c ⊖ d) ≡ true) ↔ (a + d < c + b)
⊖-ltT a b c d = (λ h. (⊖-lt a b c d).0 (lt_z_true h), λ h. true_lt_z ((⊖-lt a b c d).1 h))

pub ⊖-ltF : (a b c d : ℕ) → (lt_z (a ⊖ b) (c ⊖ d) ≡ false) ↔ (c + b ≤ a + d)
⊖-ltF a b c d = (λ h. (⊖-le c d a b).0 (lt_z_false h), λ h. false_lt_z ((⊖-le c d a b).1 h))

-- ---- the range of a signed width
-- (at 128 bits the power is past the numbers that `omega` reads)
pub ⊖-fits : (w : Width) (a b : ℕ) → SFits w (a ⊖ b) ↔ ((a < b + 2 ^ hbits w) × (b ≤ a + 2 ^ hbits w))
⊖-fits w a b = (λ h. omega (arith, ⊖-parts a b, fits_in h), λ h. fits_out (omega (arith, ⊖-parts a b)))

pub ruleset split-all = (⊖-eq-iff, ⊖-add, ⊖-sub, ⊖-neg, ⊖-mul, ⊖-pos, ⊖-negsuc, ⊖-le, ⊖-lt, ⊖-leT, ⊖-leF, ⊖-ltT, ⊖-ltF, ⊖-fits)

pub zero_minus : (x : ℤ) → pos 0 -ℤ x ≡ neg_ℤ x
zero_minus x = rw (split x) (simp split-all (omega arith))
