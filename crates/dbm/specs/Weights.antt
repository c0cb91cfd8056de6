-- The laws of weights: their order `◌⊑◌` and their sums, and how both stand to `Keeps`.
-- Each has a linear form over the parts of the numbers, with strictness as a bit, which `omega` reads.
use Rattle.std.specs.Prelude.{◌≡◌, refl, ◌⊎◌, Bool, true, false, ◌||◌, ℕ, zero, suc, ◌+◌, ◌*◌, ◌≤◌, ℤ, pos, negsuc, ◌+ℤ◌, ◌-ℤ◌, ◌*ℤ◌, ◌≤ℤ◌}
use Rattle.std.proofs.Common.{ap, ap₂, inl, inr, mul-le-mul_left, arith}
use Rattle.std.proofs.Math.IntN.{+ℤ_assoc, +ℤ_comm, +ℤ_idl, *ℤ-zero}
use Rattle.integer.specs.Apart.{apart}
use Rattle.integer.specs.Order.{zts}
use Rattle.integer.specs.Split.{split, split-all}
use Rattle.integer.specs.Product.{*ℤ-distribl}
use Rattle.integer.specs.Parts.{p, n, +-parts, -parts, *-parts, pos_parts, zs}
use Rattle.weight.specs.Upper.{Upper, none, upper, sum_w, tighter_w, zero_w}
use Rattle.dbm.specs.Matrix.{Keeps, ◌⊑◌, scale_w}

-- ---- the linear forms
abbrev pub bit : Bool → ℕ
bit true = 1
bit false = 0

-- 2x - bit s ≤ 2y - bit t
abbrev pub Linear : Upper ℤ → Upper ℤ → Type 0
Linear a none = Unit
Linear none (upper t y) = ⊥
Linear (upper s x) (upper t y) = 2 * p x + 2 * n y + bit t ≤ 2 * p y + 2 * n x + bit s

pub ⊑-in : (a b : Upper ℤ) → a ⊑ b → Linear a b
unfolding tighter_w
⊑-in a none h = tt
⊑-in none (upper t y) h = let z : ◌≡◌ {A = Bool} true false = h.as_tight in apart cc
⊑-in (upper true x) (upper true y) h = omega (zts, h.as_tight, -parts x y, -parts (x -ℤ y) (pos 1), pos_parts 1, pos_parts 0)
⊑-in (upper true x) (upper false y) h = omega (zts, h.as_tight, -parts x y, -parts (x -ℤ y) (pos 1), pos_parts 1, pos_parts 0)
⊑-in (upper false x) (upper true y) h = omega (zts, h.as_tight, -parts x y, pos_parts 0)
⊑-in (upper false x) (upper false y) h = omega (zts, h.as_tight, -parts x y, -parts (x -ℤ y) (pos 1), pos_parts 1, pos_parts 0)

pub ⊑-out : (a b : Upper ℤ) → Linear a b → a ⊑ b
unfolding tighter_w
⊑-out a none h = record { as_tight = refl }
⊑-out none (upper t y) h = absurd h
⊑-out (upper true x) (upper true y) h = record { as_tight = omega (zts, -parts x y, -parts (x -ℤ y) (pos 1), pos_parts 1, pos_parts 0) }
⊑-out (upper true x) (upper false y) h = record { as_tight = omega (zts, -parts x y, -parts (x -ℤ y) (pos 1), pos_parts 1, pos_parts 0) }
⊑-out (upper false x) (upper true y) h = record { as_tight = omega (zts, -parts x y, pos_parts 0) }
⊑-out (upper false x) (upper false y) h = record { as_tight = omega (zts, -parts x y, -parts (x -ℤ y) (pos 1), pos_parts 1, pos_parts 0) }

-- d + bit s ≤ D * c
abbrev pub LinearKeeps : ℕ → ℤ → Upper ℤ → Type 0
LinearKeeps D d none = Unit
LinearKeeps D d (upper s c) = p d + D * n c + bit s ≤ D * p c + n d

pub D-parts : (D : ℕ) (c : ℤ) → p (pos D *ℤ c) + D * n c ≡ D * p c + n (pos D *ℤ c)
unfolding p n
D-parts D c = omega (arith, *-parts (pos D) c)

pub keeps_in : (a : Upper ℤ) {D : ℕ} {d : ℤ} → Keeps D d a → LinearKeeps D d a
keeps_in none h = tt
keeps_in (upper true c) {D} h = omega (zs, D-parts D c)
keeps_in (upper false c) {D} h = omega (zs, D-parts D c)

pub keeps_out : (a : Upper ℤ) (D : ℕ) (d : ℤ) → LinearKeeps D d a → Keeps D d a
keeps_out none D d h = record { is_below = tt }
keeps_out (upper true c) D d h = record { is_below = omega (zs, D-parts D c) }
keeps_out (upper false c) D d h = record { is_below = omega (zs, D-parts D c) }

-- ---- the order
pub ⊑_refl : (a : Upper ℤ) → a ⊑ a
⊑_refl none = ⊑-out none none tt
⊑_refl (upper s x) = ⊑-out (upper s x) (upper s x) (omega arith)

pub ⊑-≡ : {a b : Upper ℤ} → a ≡ b → a ⊑ b
⊑-≡ {a} e = rw (← e) (⊑_refl a)

linear_trans : (a b c : Upper ℤ) → Linear a b → Linear b c → Linear a c
linear_trans a b none h k = tt
linear_trans a none (upper u z) h k = absurd k
linear_trans none (upper t y) (upper u z) h k = h
linear_trans (upper s x) (upper t y) (upper u z) h k = omega arith

pub ⊑_trans : {a b c : Upper ℤ} → a ⊑ b → b ⊑ c → a ⊑ c
⊑_trans {a} {b} {c} h k = ⊑-out a c (linear_trans a b c (⊑-in a b h) (⊑-in b c k))

-- none is the loosest
pub ⊑-none : (a : Upper ℤ) → a ⊑ none
⊑-none a = ⊑-out a none tt

-- the test of tighter weights decides the order
by_test : (a b : Upper ℤ) (t : Bool) → tighter_w b a ≡ t → (a ⊑ b) ⊎ (tighter_w b a ≡ true)
by_test a b true h = inr h
by_test a b false h = inl (record { as_tight = h })

pub ⊑-or-tighter : (a b : Upper ℤ) → (a ⊑ b) ⊎ (tighter_w b a ≡ true)
⊑-or-tighter a b = by_test a b (tighter_w b a) refl

-- what is tighter is at least as tight
pub tighter-⊑ : (a b : Upper ℤ) → tighter_w a b ≡ true → a ⊑ b
unfolding tighter_w
tighter-⊑ none b h = apart cc
tighter-⊑ (upper s x) none h = ⊑-none (upper s x)
tighter-⊑ (upper true x) (upper true y) h =
    ⊑-out (upper true x) (upper true y) (omega (zts, -parts y x, -parts (y -ℤ x) (pos 1), pos_parts 1, pos_parts 0))
tighter-⊑ (upper true x) (upper false y) h = ⊑-out (upper true x) (upper false y) (omega (zts, -parts y x, pos_parts 0))
tighter-⊑ (upper false x) (upper true y) h =
    ⊑-out (upper false x) (upper true y) (omega (zts, -parts y x, -parts (y -ℤ x) (pos 1), pos_parts 1, pos_parts 0))
tighter-⊑ (upper false x) (upper false y) h =
    ⊑-out (upper false x) (upper false y) (omega (zts, -parts y x, -parts (y -ℤ x) (pos 1), pos_parts 1, pos_parts 0))

same_weight : (s t : Bool) (x y : ℤ) → Linear (upper s x) (upper t y) → Linear (upper t y) (upper s x) → upper s x ≡ upper t y
same_weight true true x y h k = ap (upper true) (omega zs)
same_weight true false x y h k = absurd (omega arith)
same_weight false true x y h k = absurd (omega arith)
same_weight false false x y h k = ap (upper false) (omega zs)

linear_antisym : (a b : Upper ℤ) → Linear a b → Linear b a → a ≡ b
linear_antisym none none h k = refl
linear_antisym none (upper t y) h k = absurd h
linear_antisym (upper s x) none h k = absurd k
linear_antisym (upper s x) (upper t y) h k = same_weight s t x y h k

pub ⊑-antisym : {a b : Upper ℤ} → a ⊑ b → b ⊑ a → a ≡ b
⊑-antisym {a} {b} h k = linear_antisym a b (⊑-in a b h) (⊑-in b a k)

-- ---- sums
pub sum_none : (a : Upper ℤ) → sum_w a none ≡ none
unfolding sum_w
sum_none none = refl
sum_none (upper s x) = refl

or_comm : (s t : Bool) → (s || t) ≡ (t || s)
or_comm true true = refl
or_comm true false = refl
or_comm false true = refl
or_comm false false = refl

or_assoc : (s t u : Bool) → ((s || t) || u) ≡ (s || (t || u))
or_assoc true t u = refl
or_assoc false t u = refl

pub sum_comm : (a b : Upper ℤ) → sum_w a b ≡ sum_w b a
unfolding sum_w
sum_comm none none = refl
sum_comm none (upper t y) = refl
sum_comm (upper s x) none = refl
sum_comm (upper s x) (upper t y) = ap₂ upper (or_comm s t) (+ℤ_comm x y)

pub sum_assoc : (a b c : Upper ℤ) → sum_w (sum_w a b) c ≡ sum_w a (sum_w b c)
unfolding sum_w
sum_assoc none b c = refl
sum_assoc (upper s x) none c = refl
sum_assoc (upper s x) (upper t y) none = refl
sum_assoc (upper s x) (upper t y) (upper u z) = ap₂ upper (or_assoc s t u) (+ℤ_assoc x y z)

pub zero_sum : (a : Upper ℤ) → sum_w zero_w a ≡ a
unfolding sum_w
zero_sum none = refl
zero_sum (upper s x) = ap (upper s) (+ℤ_idl x)

pub sum_zero : (a : Upper ℤ) → sum_w a zero_w ≡ a
sum_zero a = rw (sum_comm a zero_w) (zero_sum a)

-- strictness, for `omega`
pub or_bits : (s t : Bool) → (bit s ≤ bit (s || t)) × (bit t ≤ bit (s || t)) × (bit (s || t) ≤ bit s + bit t)
or_bits true true = omega arith
or_bits true false = omega arith
or_bits false true = omega arith
or_bits false false = omega arith

or_mono : (s t u v : Bool) (x y z w : ℤ) → Linear (upper s x) (upper t y) → Linear (upper u z) (upper v w)
    → Linear (upper (s || u) (x +ℤ z)) (upper (t || v) (y +ℤ w))
or_mono true true u v x y z w h k = omega (arith, +-parts x z, +-parts y w, or_bits true u)
or_mono true false true v x y z w h k = omega (arith, +-parts x z, +-parts y w)
or_mono true false false true x y z w h k = omega (arith, +-parts x z, +-parts y w)
or_mono true false false false x y z w h k = omega (arith, +-parts x z, +-parts y w)
or_mono false true true true x y z w h k = omega (arith, +-parts x z, +-parts y w)
or_mono false true true false x y z w h k = omega (arith, +-parts x z, +-parts y w)
or_mono false true false true x y z w h k = omega (arith, +-parts x z, +-parts y w)
or_mono false true false false x y z w h k = omega (arith, +-parts x z, +-parts y w)
or_mono false false u v x y z w h k = omega (arith, +-parts x z, +-parts y w)

linear_sum : (a b c d : Upper ℤ) → Linear a b → Linear c d → Linear (sum_w a c) (sum_w b d)
unfolding sum_w
linear_sum a none c d h k = tt
linear_sum a (upper t y) c none h k = tt
linear_sum none (upper t y) c (upper v w) h k = absurd h
linear_sum (upper s x) (upper t y) none (upper v w) h k = absurd k
linear_sum (upper s x) (upper t y) (upper u z) (upper v w) h k = or_mono s t u v x y z w h k

pub sum_mono : {a b c d : Upper ℤ} → a ⊑ b → c ⊑ d → sum_w a c ⊑ sum_w b d
sum_mono {a} {b} {c} {d} h k = ⊑-out (sum_w a c) (sum_w b d) (linear_sum a b c d (⊑-in a b h) (⊑-in c d k))

-- ---- what Keeps a weight
linear_looser : (D : ℕ) (d : ℤ) (s t : Bool) (x y : ℤ) → 1 ≤ D → Linear (upper s x) (upper t y) → LinearKeeps D d (upper s x)
    → LinearKeeps D d (upper t y)
linear_looser D d true true x y g h k = let l : p x + n y ≤ p y + n x = omega arith in omega (arith, mul-le-mul_left D l)
linear_looser D d true false x y g h k = let l : p x + n y ≤ p y + n x = omega arith in omega (arith, mul-le-mul_left D l)
linear_looser D d false true x y g h k = let l : p x + n y + 1 ≤ p y + n x = omega arith in omega (arith, mul-le-mul_left D l)
linear_looser D d false false x y g h k = let l : p x + n y ≤ p y + n x = omega arith in omega (arith, mul-le-mul_left D l)

looser : (D : ℕ) (d : ℤ) (a b : Upper ℤ) → 1 ≤ D → Linear a b → LinearKeeps D d a → LinearKeeps D d b
looser D d a none g h k = tt
looser D d none (upper t y) g h k = absurd h
looser D d (upper s x) (upper t y) g h k = linear_looser D d s t x y g h k

-- what Keeps a weight Keeps every looser one
pub keeps-⊑ : {D : ℕ} {d : ℤ} {a b : Upper ℤ} → 1 ≤ D → a ⊑ b → Keeps D d a → Keeps D d b
keeps-⊑ {D} {d} {a} {b} g h k = keeps_out b D d (looser D d a b g (⊑-in a b h) (keeps_in a k))

-- so does a smaller difference
linear_less : (a : Upper ℤ) (D : ℕ) (d e : ℤ) → d ≤ℤ e → LinearKeeps D e a → LinearKeeps D d a
linear_less none D d e h k = tt
linear_less (upper s x) D d e h k = omega zs

pub keeps-≤ : {D : ℕ} {d e : ℤ} {a : Upper ℤ} → d ≤ℤ e → Keeps D e a → Keeps D d a
keeps-≤ {D} {d} {e} {a} h k = keeps_out a D d (linear_less a D d e h (keeps_in a k))

pub keeps-≡ : {D : ℕ} {d e : ℤ} {a : Upper ℤ} → d ≡ e → Keeps D e a → Keeps D d a
keeps-≡ h k = rw h k

-- a sum of differences Keeps the sum of the weights
linear_plus : (a b : Upper ℤ) (D : ℕ) (d e : ℤ) → LinearKeeps D d a → LinearKeeps D e b → LinearKeeps D (d +ℤ e) (sum_w a b)
unfolding sum_w
linear_plus none b D d e h k = tt
linear_plus (upper s x) none D d e h k = tt
linear_plus (upper s x) (upper t y) D d e h k = omega (arith, +-parts d e, ap (λ (c : ℕ). D * c) (+-parts x y), or_bits s t)

pub keeps_sum : {D : ℕ} {d e : ℤ} {a b : Upper ℤ} → Keeps D d a → Keeps D e b → Keeps D (d +ℤ e) (sum_w a b)
keeps_sum {D} {d} {e} {a} {b} h k = keeps_out (sum_w a b) D (d +ℤ e) (linear_plus a b D d e (keeps_in a h) (keeps_in b k))

between : (x y z : ℤ) → x -ℤ z ≡ (x -ℤ y) +ℤ (y -ℤ z)
between x y z = rw (split x, split y, split z) (simp split-all (omega arith))

-- the same by way of a third value
pub keeps_via : {D : ℕ} {a b : Upper ℤ} (x y z : ℤ) → Keeps D (x -ℤ y) a → Keeps D (y -ℤ z) b → Keeps D (x -ℤ z) (sum_w a b)
keeps_via x y z h k = keeps-≡ (between x y z) (keeps_sum h k)

-- no difference at all Keeps just the weights that are no tighter than zero
pub zero_keeps : (D : ℕ) → Keeps D (pos 0) zero_w
unfolding p n
zero_keeps D = keeps_out zero_w D (pos 0) (omega arith)

pub keeps_zero : {D : ℕ} (a : Upper ℤ) → 1 ≤ D → Keeps D (pos 0) a → zero_w ⊑ a
unfolding p n
keeps_zero none g h = ⊑-none zero_w
keeps_zero {D} (upper true (pos zero)) g h = absurd (omega (arith, keeps_in (upper true (pos 0)) h))
keeps_zero {D} (upper true (pos (suc a))) g h = ⊑-out zero_w (upper true (pos (suc a))) (omega arith)
keeps_zero {D} (upper false (pos a)) g h = ⊑-out zero_w (upper false (pos a)) (omega arith)
keeps_zero {D} (upper true (negsuc a)) g h = absurd (omega (arith, keeps_in (upper true (negsuc a)) h))
keeps_zero {D} (upper false (negsuc a)) g h = absurd (omega (arith, keeps_in (upper false (negsuc a)) h))

pub no_difference : (x : ℤ) → x -ℤ x ≡ pos 0
no_difference x = rw (split x) (simp split-all (omega arith))

-- ---- multiples
bit_times : (s : Bool) (K : ℕ) → 1 ≤ K → bit s ≤ K * bit s
bit_times true K h = omega arith
bit_times false K h = omega arith

linear_times : (a : Upper ℤ) (K D : ℕ) (d : ℤ) → 1 ≤ K → LinearKeeps D d a → LinearKeeps (K * D) (pos K *ℤ d) a
linear_times none K D d g h = tt
linear_times (upper s x) K D d g h = omega (arith, D-parts K d, mul-le-mul_left K h, bit_times s K g)

-- K times the difference Keeps the weight where there are K times as many parts to a minute
pub keeps_times : {D : ℕ} {d : ℤ} {a : Upper ℤ} (K : ℕ) → 1 ≤ K → Keeps D d a → Keeps (K * D) (pos K *ℤ d) a
keeps_times {D} {d} {a} K g h = keeps_out a (K * D) (pos K *ℤ d) (linear_times a K D d g (keeps_in a h))

-- ---- weights scaled
linear_scale : (a b : Upper ℤ) (N : ℕ) → 1 ≤ N → Linear a b → Linear (scale_w N a) (scale_w N b)
unfolding scale_w
linear_scale a none N g h = tt
linear_scale none (upper t y) N g h = h
linear_scale (upper true x) (upper true y) N g h =
    let l : p x + n y ≤ p y + n x = omega arith in omega (arith, mul-le-mul_left N l, D-parts N x, D-parts N y)
linear_scale (upper true x) (upper false y) N g h =
    let l : p x + n y ≤ p y + n x = omega arith in omega (arith, mul-le-mul_left N l, D-parts N x, D-parts N y)
linear_scale (upper false x) (upper true y) N g h =
    let l : p x + n y + 1 ≤ p y + n x = omega arith in omega (arith, mul-le-mul_left N l, D-parts N x, D-parts N y)
linear_scale (upper false x) (upper false y) N g h =
    let l : p x + n y ≤ p y + n x = omega arith in omega (arith, mul-le-mul_left N l, D-parts N x, D-parts N y)

pub scale_mono : {a b : Upper ℤ} (N : ℕ) → 1 ≤ N → a ⊑ b → scale_w N a ⊑ scale_w N b
scale_mono {a} {b} N g h = ⊑-out (scale_w N a) (scale_w N b) (linear_scale a b N g (⊑-in a b h))

pub scale_sum : (N : ℕ) (a b : Upper ℤ) → scale_w N (sum_w a b) ≡ sum_w (scale_w N a) (scale_w N b)
unfolding scale_w sum_w
scale_sum N none b = refl
scale_sum N (upper s x) none = refl
scale_sum N (upper s x) (upper t y) = ap (upper (s || t)) (*ℤ-distribl (pos N) x y)

pub scale_zero : (N : ℕ) → scale_w N zero_w ≡ zero_w
unfolding scale_w
scale_zero N = ap (upper false) (*ℤ-zero (pos N))

linear_scaled : (a : Upper ℤ) (N D : ℕ) (d : ℤ) → LinearKeeps D d (scale_w N a) → LinearKeeps (D * N) d a
unfolding scale_w
linear_scaled none N D d h = tt
linear_scaled (upper s x) N D d h = omega (arith, ap (λ (c : ℕ). D * c) (D-parts N x))

-- what Keeps N times a weight Keeps the weight where there are N times as many parts to a minute
pub keeps_scaled : (N D : ℕ) (d : ℤ) (a : Upper ℤ) → Keeps D d (scale_w N a) → Keeps (D * N) d a
keeps_scaled N D d a h = keeps_out a (D * N) d (linear_scaled a N D d (keeps_in (scale_w N a) h))
