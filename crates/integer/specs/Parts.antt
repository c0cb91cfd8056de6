-- The parts of an integer, and what each operation and each order of ℤ says of them over ℕ. An integer x is p x - n x, one of the two
-- being 0. `omega` reads ℕ alone; by the laws below it proves orders of ℤ from orders of ℤ. Inside a larger proof: `omega (zs, +-parts x
-- z, +-parts y z)`, one law for each sum, difference, negation, product and number written out (`pos-parts 1`) that stands in the goal or
-- in a hypothesis.
use Rattle.std.specs.Prelude.{◌≡◌, refl, Bool, true, false, not, cond, ℕ, zero, suc, ◌+◌, ◌*◌, ◌-◌, ◌^◌, ◌<◌, ◌≤◌, T, ltb, ℤ, pos, negsuc, neg_ℤ, nat_abs, ◌+ℤ◌, ◌-ℤ◌, ◌*ℤ◌, ◌≤ℤ◌, ◌<ℤ◌}
use Rattle.std.proofs.Common.{ap, arith, leb→le, le→leb, ltb→lt, lt→ltb, nltb→le}
use Rattle.std.proofs.Math.IntN.{sub_ℕ}
use Rattle.std.specs.Int.{Width}
use mir.Val.{SFits, hbits}

-- x where it is not negative, else 0
unfoldable pub p : ℤ → ℕ
p (pos a) = a
p (negsuc a) = 0

-- -x where x is negative, else 0
unfoldable pub n : ℤ → ℕ
n (pos a) = 0
n (negsuc a) = suc a

-- ---- the parts of numbers written out
pub pos_parts : (a : ℕ) → (p (pos a) ≡ a) × (n (pos a) ≡ 0)
unfolding p n
pos_parts a = (refl, refl)

pub negsuc_parts : (a : ℕ) → (p (negsuc a) ≡ 0) × (n (negsuc a) ≡ suc a)
unfolding p n
negsuc_parts a = (refl, refl)

-- ---- an operation's parts from its operands' parts
cond_ind : (c : Bool) (x y : ℤ) (P : ℤ → Type 0) → (T c → P x) → (T (not c) → P y) → P (cond c x y)
cond_ind true x y P f g = f tt
cond_ind false x y P f g = g tt

pub subℕ_parts : (a b : ℕ) → p (sub_ℕ a b) + b ≡ a + n (sub_ℕ a b)
unfolding p n
subℕ_parts a b = cond_ind (ltb a b) (negsuc (b - suc a)) (pos (a - b)) (λ z. p z + b ≡ a + n z)
    (λ t. less a b (ltb→lt a b t)) (λ t. more a b (nltb→le a b t))
  where
    less : (a b : ℕ) → a < b → 0 + b ≡ a + suc (b - suc a)
    less a b h = omega arith

    more : (a b : ℕ) → b ≤ a → a - b + b ≡ a + 0
    more a b h = omega arith

pub +-parts : (x y : ℤ) → p (x +ℤ y) + (n x + n y) ≡ p x + p y + n (x +ℤ y)
unfolding p n
+-parts (pos a) (pos b) = omega arith
+-parts (pos a) (negsuc b) = omega (arith, subℕ_parts a (suc b))
+-parts (negsuc a) (pos b) = omega (arith, subℕ_parts b (suc a))
+-parts (negsuc a) (negsuc b) = omega arith

neg_p : (x : ℤ) → p (neg_ℤ x) ≡ n x
unfolding p n
neg_p (pos zero) = refl
neg_p (pos (suc a)) = refl
neg_p (negsuc a) = refl

neg_n : (x : ℤ) → n (neg_ℤ x) ≡ p x
unfolding p n
neg_n (pos zero) = refl
neg_n (pos (suc a)) = refl
neg_n (negsuc a) = refl

pub neg_parts : (x : ℤ) → (p (neg_ℤ x) ≡ n x) × (n (neg_ℤ x) ≡ p x)
neg_parts x = (neg_p x, neg_n x)

pub -parts : (x y : ℤ) → p (x -ℤ y) + (n x + p y) ≡ p x + n y + n (x -ℤ y)
-parts x y = omega (arith, +-parts x (neg_ℤ y), neg_p y, neg_n y)

pub *-parts : (x y : ℤ) → p (x *ℤ y) + (p x * n y + n x * p y) ≡ p x * p y + n x * n y + n (x *ℤ y)
unfolding p n
*-parts (pos a) (pos b) = omega arith
*-parts (pos a) (negsuc b) = omega (arith, neg_p (pos (a * suc b)), neg_n (pos (a * suc b)))
*-parts (negsuc a) (pos b) = omega (arith, neg_p (pos (suc a * b)), neg_n (pos (suc a * b)))
*-parts (negsuc a) (negsuc b) = omega arith

-- the size of a number is the sum of its parts; a product's size is the product of the sizes
pub nat_abs_parts : (x : ℤ) → nat_abs x ≡ p x + n x
unfolding p n
nat_abs_parts (pos a) = omega arith
nat_abs_parts (negsuc a) = omega arith

pub *-size : (x y : ℤ) → p (x *ℤ y) + n (x *ℤ y) ≡ (p x + n x) * (p y + n y)
unfolding p n
*-size (pos a) (pos b) = omega arith
*-size (pos a) (negsuc b) = omega (arith, neg_p (pos (a * suc b)), neg_n (pos (a * suc b)))
*-size (negsuc a) (pos b) = omega (arith, neg_p (pos (suc a * b)), neg_n (pos (suc a * b)))
*-size (negsuc a) (negsuc b) = omega arith

-- ---- the orders and equality
pub ≤-in : {x y : ℤ} → x ≤ℤ y → p x + n y ≤ p y + n x
unfolding p n
≤-in {x = pos a} {y = pos b} h = omega (arith, leb→le a b h.le)
≤-in {x = pos a} {y = negsuc b} h = absurd h.le
≤-in {x = negsuc a} {y = pos b} h = omega arith
≤-in {x = negsuc a} {y = negsuc b} h = omega (arith, leb→le b a h.le)

pub ≤-out : {x y : ℤ} → p x + n y ≤ p y + n x → x ≤ℤ y
unfolding p n
≤-out {x = pos a} {y = pos b} h = record { le = le→leb a b (omega arith) }
≤-out {x = pos a} {y = negsuc b} h = absurd (omega arith)
≤-out {x = negsuc a} {y = pos b} h = record { le = tt }
≤-out {x = negsuc a} {y = negsuc b} h = record { le = le→leb b a (omega arith) }

pub <-in : {x y : ℤ} → x <ℤ y → p x + n y < p y + n x
unfolding p n
<-in {x = pos a} {y = pos b} h = omega (arith, ltb→lt a b h.lt)
<-in {x = pos a} {y = negsuc b} h = absurd h.lt
<-in {x = negsuc a} {y = pos b} h = omega arith
<-in {x = negsuc a} {y = negsuc b} h = omega (arith, ltb→lt b a h.lt)

pub <-out : {x y : ℤ} → p x + n y < p y + n x → x <ℤ y
unfolding p n
<-out {x = pos a} {y = pos b} h = record { lt = lt→ltb a b (omega arith) }
<-out {x = pos a} {y = negsuc b} h = absurd (omega arith)
<-out {x = negsuc a} {y = pos b} h = record { lt = tt }
<-out {x = negsuc a} {y = negsuc b} h = record { lt = lt→ltb b a (omega arith) }

pub eq_in : {x y : ℤ} → x ≡ y → p x + n y ≡ p y + n x
eq_in {x} {y} h = omega (arith, ap p h, ap n h)

pub eq_out : {x y : ℤ} → p x + n y ≡ p y + n x → x ≡ y
unfolding p n
eq_out {x = pos a} {y = pos b} h = ap pos (omega arith)
eq_out {x = pos a} {y = negsuc b} h = absurd (omega arith)
eq_out {x = negsuc a} {y = pos b} h = absurd (omega arith)
eq_out {x = negsuc a} {y = negsuc b} h = ap negsuc (omega arith)

-- ---- the range of a signed width: `fits_out (omega (zs, +-parts x y, fits_in h, fits_in k))`
pub fits_in : {w : Width} {x : ℤ} → SFits w x → (p x < n x + 2 ^ hbits w) × (n x ≤ p x + 2 ^ hbits w)
unfolding p n
fits_in {w} {x = pos a} h = omega (arith, h.sfits)
fits_in {w} {x = negsuc a} h = omega (arith, h.sfits)

pub fits_out : {w : Width} {x : ℤ} → (p x < n x + 2 ^ hbits w) × (n x ≤ p x + 2 ^ hbits w) → SFits w x
unfolding p n
fits_out {w} {x = pos a} h = record { sfits = omega arith }
fits_out {w} {x = negsuc a} h = record { sfits = omega arith }

-- ---- the sign: one part is 0
pub nonneg_part : {x : ℤ} → pos 0 ≤ℤ x → n x ≡ 0
unfolding n
nonneg_part {x = pos a} h = refl
nonneg_part {x = negsuc a} h = absurd h.le

pub nonpos_part : {x : ℤ} → x ≤ℤ pos 0 → p x ≡ 0
unfolding p
nonpos_part {x = pos a} h = omega (arith, leb→le a 0 h.le)
nonpos_part {x = negsuc a} h = refl

-- what `omega` is given to prove orders and equations of ℤ from those among the hypotheses
pub ruleset zs = (arith, ≤-in, ≤-out, <-in, <-out, eq_in, eq_out)

-- for example
+-order : (x y z : ℤ) → x ≤ℤ y → (x +ℤ z) ≤ℤ (y +ℤ z)
+-order x y z h = omega (zs, +-parts x z, +-parts y z)

from_both : (x y : ℤ) → x ≤ℤ y → y ≤ℤ x → x ≡ y
from_both x y h k = omega zs
