-- The laws of the orders of ℤ, `◌≤ℤ◌` and `◌<ℤ◌`, and of the Bool tests `le_z` and `lt_z` that decide them.
use Rattle.std.specs.Prelude.{◌≡◌, refl, ◌↔◌, ◌⊎◌, Bool, true, false, not, ◌+◌, ◌<◌, ◌≤◌, T, ℤ, pos, negsuc, neg_ℤ, ◌+ℤ◌, ◌-ℤ◌, ◌≤ℤ◌, ◌<ℤ◌}
use Rattle.std.proofs.Common.{sym, subst, inl, inr, lt→ltb}
use Rattle.std.proofs.Math.Dec.{nleb→lt}
use Rattle.std.specs.Int.Signed.{le_z, lt_z, lt_z_no, clash_ℤ}
use Rattle.integer.specs.Parts.{p, n, +-parts, -parts, neg_parts, pos_parts, ≤-in, ≤-out, <-in, <-out, zs}

-- ---- the tests: what a test's answer says, and the answer that an order gives
T_of : {b : Bool} → b ≡ true → T b
T_of h = subst T (sym h) tt

T-not-of : {b : Bool} → b ≡ false → T (not b)
T-not-of h = subst (λ (b : Bool). T (not b)) (sym h) tt

true_of : (b : Bool) → T b → b ≡ true
true_of true t = refl
true_of false t = absurd t

false_of : (b : Bool) → (T b → ⊥) → b ≡ false
false_of true f = absurd (f tt)
false_of false f = refl

nle : (x y : ℤ) → T (not (le_z x y)) → T (lt_z y x)
nle (pos a) (pos b) t = lt→ltb b a (nleb→lt a b t)
nle (pos a) (negsuc b) t = tt
nle (negsuc a) (pos b) t = t
nle (negsuc a) (negsuc b) t = lt→ltb a b (nleb→lt b a t)

pub le_z_true : {x y : ℤ} → le_z x y ≡ true → x ≤ℤ y
le_z_true h = record { le = T_of h }

pub le_z_false : {x y : ℤ} → le_z x y ≡ false → y <ℤ x
le_z_false {x} {y} h = record { lt = nle x y (T-not-of h) }

pub lt_z_true : {x y : ℤ} → lt_z x y ≡ true → x <ℤ y
lt_z_true h = record { lt = T_of h }

pub lt_z_false : {x y : ℤ} → lt_z x y ≡ false → y ≤ℤ x
lt_z_false {x} {y} h = lt_z_no {a = x} {b = y} (T-not-of h)

pub true_le_z : {x y : ℤ} → x ≤ℤ y → le_z x y ≡ true
true_le_z {x} {y} h = true_of (le_z x y) h.le

pub false_le_z : {x y : ℤ} → y <ℤ x → le_z x y ≡ false
false_le_z {x} {y} h = false_of (le_z x y) (λ t. clash_ℤ h (record { le = t }))

pub true_lt_z : {x y : ℤ} → x <ℤ y → lt_z x y ≡ true
true_lt_z {x} {y} h = true_of (lt_z x y) h.lt

pub false_lt_z : {x y : ℤ} → y ≤ℤ x → lt_z x y ≡ false
false_lt_z {x} {y} h = false_of (lt_z x y) (λ t. clash_ℤ {a = x} (record { lt = t }) h)

-- the same over the parts, for `omega`
pub le_t_in : (x y : ℤ) → le_z x y ≡ true → p x + n y ≤ p y + n x
le_t_in x y h = ≤-in (le_z_true h)

pub le_f_in : (x y : ℤ) → le_z x y ≡ false → p y + n x < p x + n y
le_f_in x y h = <-in (le_z_false h)

pub lt_t_in : (x y : ℤ) → lt_z x y ≡ true → p x + n y < p y + n x
lt_t_in x y h = <-in (lt_z_true h)

pub lt_f_in : (x y : ℤ) → lt_z x y ≡ false → p y + n x ≤ p x + n y
lt_f_in x y h = ≤-in (lt_z_false h)

pub le_t_out : (x y : ℤ) → p x + n y ≤ p y + n x → le_z x y ≡ true
le_t_out x y h = true_le_z (≤-out {x = x} {y = y} h)

pub le_f_out : (x y : ℤ) → p y + n x < p x + n y → le_z x y ≡ false
le_f_out x y h = false_le_z {x = x} {y = y} (<-out {x = y} {y = x} h)

pub lt_t_out : (x y : ℤ) → p x + n y < p y + n x → lt_z x y ≡ true
lt_t_out x y h = true_lt_z (<-out {x = x} {y = y} h)

pub lt_f_out : (x y : ℤ) → p y + n x ≤ p x + n y → lt_z x y ≡ false
lt_f_out x y h = false_lt_z {x = x} {y = y} (≤-out {x = y} {y = x} h)

-- `zs` with the tests: `omega (zts, +-parts x y)` reads and proves answers of tests too
pub ruleset zts = (zs, le_t_in, le_f_in, lt_t_in, lt_f_in, le_t_out, le_f_out, lt_t_out, lt_f_out)

-- ---- the orders
pub ≤ℤ-trans : {x y z : ℤ} → x ≤ℤ y → y ≤ℤ z → x ≤ℤ z
≤ℤ-trans h k = omega zs

pub ≤ℤ-<ℤ-trans : {x y z : ℤ} → x ≤ℤ y → y <ℤ z → x <ℤ z
≤ℤ-<ℤ-trans h k = omega zs

pub <ℤ-trans : {x y z : ℤ} → x <ℤ y → y <ℤ z → x <ℤ z
<ℤ-trans h k = omega zs

pub ≤ℤ-antisym : {x y : ℤ} → x ≤ℤ y → y ≤ℤ x → x ≡ y
≤ℤ-antisym h k = omega zs

pub <ℤ→≤ℤ : {x y : ℤ} → x <ℤ y → x ≤ℤ y
<ℤ→≤ℤ h = omega zs

pub ≡→≤ℤ : {x y : ℤ} → x ≡ y → x ≤ℤ y
≡→≤ℤ h = omega zs

by_test : (x y : ℤ) (b : Bool) → le_z x y ≡ b → (x ≤ℤ y) ⊎ (y <ℤ x)
by_test x y true h = inl (le_z_true h)
by_test x y false h = inr (le_z_false h)

pub ≤ℤ-total : (x y : ℤ) → (x ≤ℤ y) ⊎ (y <ℤ x)
≤ℤ-total x y = by_test x y (le_z x y) refl

by_total : {x y : ℤ} → (x ≤ℤ y) ⊎ (y <ℤ x) → ¬ (x ≤ℤ y) → y <ℤ x
by_total (inl h) f = absurd (f h)
by_total (inr h) f = h

pub ≰ℤ→>ℤ : {x y : ℤ} → ¬ (x ≤ℤ y) → y <ℤ x
≰ℤ→>ℤ {x} {y} f = by_total (≤ℤ-total x y) f

-- ---- with the operations
pub +ℤ-mono : {a b c d : ℤ} → a ≤ℤ b → c ≤ℤ d → (a +ℤ c) ≤ℤ (b +ℤ d)
+ℤ-mono {a} {b} {c} {d} h k = omega (zs, +-parts a c, +-parts b d)

pub -ℤ-mono : {a b c d : ℤ} → a ≤ℤ b → c ≤ℤ d → (a -ℤ d) ≤ℤ (b -ℤ c)
-ℤ-mono {a} {b} {c} {d} h k = omega (zs, -parts a d, -parts b c)

pub neg_mono : {a b : ℤ} → a ≤ℤ b → neg_ℤ b ≤ℤ neg_ℤ a
neg_mono {a} {b} h = omega (zs, neg_parts a, neg_parts b)

-- <ℤ as a successor
pub <ℤ-suc : (x y : ℤ) → (x <ℤ y) ↔ ((x +ℤ pos 1) ≤ℤ y)
<ℤ-suc x y =
    (λ h. omega (zs, +-parts x (pos 1), pos_parts 1), λ h. omega (zs, +-parts x (pos 1), pos_parts 1))
