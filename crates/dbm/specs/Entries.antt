-- What each rule of `Matrix` leaves at an entry.
use Rattle.std.specs.Prelude.{◌≡◌, ◌⊎◌, ◌≢◌, Bool, ◌&&◌, leb, ltb, ℤ}
use Rattle.std.proofs.Math.Path.{refl}
use Rattle.std.proofs.Common.{sym, subst, ◌∙◌, inl, inr, div-one, arith, le→leb, leb→le, lt→ltb}
use Rattle.std.proofs.Math.Bool.{true, false, cond}
use Prim.Native.Nat.{ℕ, zero, suc, ◌/◌, ◌%◌, ◌^◌, ◌≤◌, ◌<◌}
use Rattle.std.proofs.Math.Dec.{T, eqb, eqb→eq, eqb_refl}
use Rattle.integer.specs.Apart.{apart}
use Rattle.weight.specs.Upper.{Upper, sum_w, tighter_w}
use Rattle.dbm.specs.Matrix.{Outside, Matrix, inside, delayed, reset_at, reset_m, resets_m, tighter_of, limited_m, put, ◌⊑◌}
use Rattle.dbm.specs.Weights.{⊑_refl, tighter-⊑}

-- ---- the tests
true_of : (b : Bool) → T b → b ≡ true
true_of true t = refl
true_of false t = absurd t

false_of : (b : Bool) → (T b → ⊥) → b ≡ false
false_of true f = absurd (f tt)
false_of false f = refl

pub leb_yes : (i w : ℕ) → i ≤ w → leb i w ≡ true
leb_yes i w h = true_of (leb i w) (le→leb i w h)

pub leb_no : (i w : ℕ) → w < i → leb i w ≡ false
leb_no i w h = false_of (leb i w) (λ t. no_both (leb→le i w t))
  where
    no_both : i ≤ w → ⊥
    no_both k = omega arith

pub eqb_yes : (i : ℕ) → eqb i i ≡ true
eqb_yes i = true_of (eqb i i) (eqb_refl i)

pub eqb_no : (i r : ℕ) → i ≢ r → eqb i r ≡ false
eqb_no i r h = false_of (eqb i r) (λ t. h (eqb→eq i r t))

by_test : (i r : ℕ) (b : Bool) → eqb i r ≡ b → (i ≡ r) ⊎ (i ≢ r)
by_test i r true h = inl (eqb→eq i r (subst T (sym h) tt))
by_test i r false h = inr (λ e. differ e)
  where
    differ : i ≡ r → ⊥
    differ e = let k : eqb i i ≡ false = rw (← e) at h in let z : ◌≡◌ {A = Bool} true false = sym (eqb_yes i) ∙ k in apart cc

pub same_or_not : (i r : ℕ) → (i ≡ r) ⊎ (i ≢ r)
same_or_not i r = by_test i r (eqb i r) refl

pub inside_yes : (w i j : ℕ) → i ≤ w → j ≤ w → inside w i j ≡ true
inside_yes w i j h k = rw (leb_yes i w h, leb_yes j w k)

pub and_false : (b : Bool) → (b && false) ≡ false
and_false true = refl
and_false false = refl

-- what holds at 0 to 4 holds up to 4
pub up_to_4 : (P : ℕ → Type 0) → P 0 → P 1 → P 2 → P 3 → P 4 → (i : ℕ) → i ≤ 4 → P i
up_to_4 P a b c d e zero h = a
up_to_4 P a b c d e (suc zero) h = b
up_to_4 P a b c d e (suc (suc zero)) h = c
up_to_4 P a b c d e (suc (suc (suc zero))) h = d
up_to_4 P a b c d e (suc (suc (suc (suc zero)))) h = e
up_to_4 P a b c d e (suc (suc (suc (suc (suc i))))) h = absurd (omega arith)

pub inside_no : (w i j : ℕ) → Outside w i j → inside w i j ≡ false
inside_no w i j (inl h) = rw (leb_no i w h) refl
inside_no w i j (inr h) = rw (leb_no j w h) (and_false (leb i w))

-- ---- the tighter of two weights
module _ (a b : Upper ℤ) where
  pub tighter_of_yes : tighter_w a b ≡ true → tighter_of a b ≡ a
  tighter_of_yes h = rw h refl

  pub tighter_of_no : b ⊑ a → tighter_of a b ≡ b
  tighter_of_no h = rw h.as_tight refl

by_answer : (a b : Upper ℤ) (t : Bool) → tighter_w a b ≡ t → (tighter_of a b ⊑ a) × (tighter_of a b ⊑ b)
by_answer a b true h = (rw h (⊑_refl a), rw h (tighter-⊑ a b h))
by_answer a b false h = (rw h (record { as_tight = h }), rw h (⊑_refl b))

-- it is at least as tight as either
pub tighterOf-⊑ : (a b : Upper ℤ) → (tighter_of a b ⊑ a) × (tighter_of a b ⊑ b)
tighterOf-⊑ a b = by_answer a b (tighter_w a b) refl

which : (a b : Upper ℤ) (t : Bool) → tighter_w a b ≡ t → ((tighter_of a b ≡ a) × (tighter_w a b ≡ true)) ⊎ (tighter_of a b ≡ b)
which a b true h = inl (tighter_of_yes a b h, h)
which a b false h = inr (tighter_of_no a b (record { as_tight = h }))

-- and it is one of them
pub tighter_of_which : (a b : Upper ℤ) → ((tighter_of a b ≡ a) × (tighter_w a b ≡ true)) ⊎ (tighter_of a b ≡ b)
tighter_of_which a b = which a b (tighter_w a b) refl

-- ---- a limit
module _ (w i j : ℕ) (e : Upper ℤ) (m : Matrix (Upper ℤ)) (k l : ℕ) where
  pub limited_inside : k ≤ w → l ≤ w → limited_m w i j e m k l ≡ tighter_of (sum_w (sum_w (m k i) e) (m j l)) (m k l)
  unfolding limited_m
  limited_inside hk hl = rw (inside_yes w k l hk hl) refl

  pub limited_outside : Outside w k l → limited_m w i j e m k l ≡ m k l
  unfolding limited_m
  limited_outside h = rw (inside_no w k l h) refl

-- ---- a delay
module _ {A : Type 0} (w : ℕ) (nothing : A) (m : Matrix A) where
  pub delayed_none : (i : ℕ) → suc i ≤ w → delayed w nothing m (suc i) 0 ≡ nothing
  unfolding delayed
  delayed_none i h = rw (true_of (ltb 0 (suc i)) (lt→ltb 0 (suc i) (omega arith)), leb_yes (suc i) w h) refl

  pub delayed_zero : (j : ℕ) → delayed w nothing m 0 j ≡ m 0 j
  unfolding delayed
  delayed_zero j = refl

  pub delayed_stays : (i j : ℕ) → delayed w nothing m i (suc j) ≡ m i (suc j)
  unfolding delayed
  delayed_stays i j = rw (eqb_no (suc j) 0 (omega arith), and_false (leb i w), and_false (ltb 0 i)) refl

-- ---- a reset: where the new entry is read
abbrev pub source : ℕ → ℕ → ℕ
source r i = cond (eqb i r) 0 i

pub source_same : (r : ℕ) → source r r ≡ 0
source_same r = rw (eqb_yes r) refl

pub source_other : (r i : ℕ) → i ≢ r → source r i ≡ i
source_other r i h = rw (eqb_no i r h) refl

either_zero : (b : Bool) → cond b zero zero ≡ zero
either_zero true = refl
either_zero false = refl

pub source_0 : (r : ℕ) → source r 0 ≡ 0
source_0 r = either_zero (eqb 0 r)

pub source-≤ : (w r i : ℕ) → i ≤ w → source r i ≤ w
source-≤ w r i h = by (eqb i r)
  where
    by : (b : Bool) → cond b 0 i ≤ w
    by true = omega arith
    by false = h

module _ {A : Type 0} (w r : ℕ) (m : Matrix A) where
  pub reset_outside : (i j : ℕ) → Outside w i j → reset_m w r m i j ≡ m i j
  unfolding reset_m
  reset_outside i j h = rw (inside_no w i j h) refl

  pub at_source : (i j : ℕ) (a b : Bool) → ((a ≡ true) → (b ≡ true) → m i j ≡ m 0 0) → reset_at m a b i j ≡ m (cond a 0 i) (cond b 0 j)
  at_source i j true true h = h refl refl
  at_source i j true false h = refl
  at_source i j false true h = refl
  at_source i j false false h = refl

-- ---- a clock put to a value
module _ (r : ℕ) (v : ℤ) (x : ℕ → ℤ) where
  pub put_same : put r v x r ≡ v
  unfolding put
  put_same = rw (eqb_yes r) refl

  pub put_other : (i : ℕ) → i ≢ r → put r v x i ≡ x i
  unfolding put
  put_other i h = rw (eqb_no i r h) refl

-- ---- resets in rising order
module _ {A : Type 0} (w bits : ℕ) (m : Matrix A) where
  pub resets_outside : (n i j : ℕ) → Outside w i j → resets_m w bits n m i j ≡ m i j
  unfolding resets_m
  resets_outside zero i j h = refl
  resets_outside (suc n) i j h = by (eqb (bits / 2 ^ n % 2) 1) (resets_outside n i j h)
    where
      by : (b : Bool) → resets_m w bits n m i j ≡ m i j → cond b (reset_m w (suc n) (resets_m w bits n m)) (resets_m w bits n m) i j ≡ m i j
      by true e = reset_outside w (suc n) (resets_m w bits n m) i j h ∙ e
      by false e = e

-- clock r is reset where its bit is 1 and there is such a clock
abbrev pub reset_bit : {A : Type 0} → ℕ → ℕ → ℕ → Matrix A → Matrix A
reset_bit w r bit m = cond (eqb bit 1) (cond (leb r w) (reset_m w r m) m) m

-- the bits of four clocks, one after the other
abbrev pub reset_bits : {A : Type 0} → ℕ → ℕ → Matrix A → Matrix A
reset_bits w bits m = reset_bit w 4 (bits / 8 % 2) (reset_bit w 3 (bits / 4 % 2) (reset_bit w 2 (bits / 2 % 2) (reset_bit w 1 (bits % 2) m)))

pub cond_same : {A : Type 0} (b : Bool) (a : A) → cond b a a ≡ a
cond_same true a = refl
cond_same false a = refl

-- bits of clocks that are not there do nothing
pub bits_resets : {A : Type 0} (bits : ℕ) (m : Matrix A) (w : ℕ) → w ≤ 4 → reset_bits w bits m ≡ resets_m w bits w m
unfolding resets_m
bits_resets bits m = up_to_4 (λ w. reset_bits w bits m ≡ resets_m w bits w m)
    (simp cond_same) (simp (cond_same, div-one)) (simp (cond_same, div-one)) (simp (cond_same, div-one)) (simp div-one)
