-- Sizes of sums and of tests.
use Rattle.std.specs.Prelude.{Bool, true, false, List, [], ◌∷◌, map, ℕ, suc, ◌+◌, ◌≤◌, ℤ, pos, neg_ℤ, ◌+ℤ◌, ◌-ℤ◌, nat_abs}
use Rattle.std.proofs.Common.{arith}
use Rattle.integer.specs.Parts.{p, n, neg_parts, pos_parts, nat_abs_parts}
use Rattle.integer.specs.Product.{sum_size, difference_size}
use Rattle.cutting.specs.Cutting.{Tree, tested}
use Rattle.expr.specs.Affine.{Affine, plus_l, minus_l, plus, minus, less_one}
use Rattle.expr.specs.Bounds.{zero_b, sum_b, slack_e, tighter_b}
use Rattle.timed.specs.Lists.{AllOf}
use Rattle.weight.specs.Upper.{Upper, none, upper}
use Rattle.sizes.specs.Sizes.{AtMostE, AtMostB, AsksAtMost}

-- ---- numbers
plus_size : (x y : ℤ) (A B : ℕ) → nat_abs x ≤ A → nat_abs y ≤ B → nat_abs (x +ℤ y) ≤ A + B
plus_size x y A B h k = rw nat_abs_parts (sum_size x y (rw nat_abs_parts at h) (rw nat_abs_parts at k))

minus_size : (x y : ℤ) (A B : ℕ) → nat_abs x ≤ A → nat_abs y ≤ B → nat_abs (x -ℤ y) ≤ A + B
minus_size x y A B h k = rw nat_abs_parts (difference_size x y (rw nat_abs_parts at h) (rw nat_abs_parts at k))

neg_size : (x : ℤ) (A : ℕ) → nat_abs x ≤ A → nat_abs (neg_ℤ x) ≤ A
neg_size x A h = let h' : p x + n x ≤ A = rw nat_abs_parts at h in rw nat_abs_parts (omega (arith, neg_parts x))

one_size : nat_abs (pos 1) ≤ 1
one_size = rw nat_abs_parts (omega (arith, pos_parts 1))

-- ---- lists of numbers
abbrev Each : ℕ → List ℤ → Type 0
Each B = AllOf (λ (c : ℤ). nat_abs c ≤ B)

each_more : (A B : ℕ) → A ≤ B → (cs : List ℤ) → Each A cs → Each B cs
each_more A B h [] a = tt
each_more A B h (c ∷ cs) a = (omega (arith, a.0), each_more A B h cs a.1)

plus_each : (A B : ℕ) (cs ds : List ℤ) → Each A cs → Each B ds → Each (A + B) (plus_l cs ds)
unfolding plus_l
plus_each A B [] ds a b = each_more B (A + B) (omega arith) ds b
plus_each A B (c ∷ cs) [] a b = each_more A (A + B) (omega arith) (c ∷ cs) a
plus_each A B (c ∷ cs) (d ∷ ds) a b = (plus_size c d A B a.0 b.0, plus_each A B cs ds a.1 b.1)

neg_each : (A B : ℕ) → A ≤ B → (cs : List ℤ) → Each A cs → Each B (map neg_ℤ cs)
neg_each A B h [] a = tt
neg_each A B h (c ∷ cs) a = (omega (arith, neg_size c A a.0), neg_each A B h cs a.1)

minus_each : (A B : ℕ) (cs ds : List ℤ) → Each A cs → Each B ds → Each (A + B) (minus_l cs ds)
unfolding minus_l
minus_each A B [] ds a b = neg_each B (A + B) (omega arith) ds b
minus_each A B (c ∷ cs) [] a b = each_more A (A + B) (omega arith) (c ∷ cs) a
minus_each A B (c ∷ cs) (d ∷ ds) a b = (minus_size c d A B a.0 b.0, minus_each A B cs ds a.1 b.1)

-- ---- expressions and bounds
pub at_most_e_more : (A B : ℕ) → A ≤ B → (e : Affine) → AtMostE A e → AtMostE B e
at_most_e_more A B h e a = record { constant = omega (arith, a.constant); coefs = each_more A B h e.coefs a.coefs }

pub at_most_b_more : (A B : ℕ) → A ≤ B → (x : Upper Affine) → AtMostB A x → AtMostB B x
at_most_b_more A B h none a = tt
at_most_b_more A B h (upper s e) a = at_most_e_more A B h e a

pub zero_size : (B : ℕ) → AtMostB B zero_b
zero_size B = record { constant = rw nat_abs_parts (omega (arith, pos_parts 0)); coefs = tt }

-- a sum is as large as both together
pub sum_size_b : (A B : ℕ) (x y : Upper Affine) → AtMostB A x → AtMostB B y → AtMostB (A + B) (sum_b x y)
unfolding sum_b plus
sum_size_b A B none y a b = tt
sum_size_b A B (upper s x) none a b = tt
sum_size_b A B (upper s x) (upper t y) a b =
    record {
      constant = plus_size x.constant y.constant A B a.constant b.constant;
      coefs = plus_each A B x.coefs y.coefs a.coefs b.coefs;
    }

minus_size_e : (A B : ℕ) (x y : Affine) → AtMostE A x → AtMostE B y → AtMostE (A + B) (minus x y)
unfolding minus
minus_size_e A B x y a b =
    record {
      constant = minus_size x.constant y.constant A B a.constant b.constant;
      coefs = minus_each A B x.coefs y.coefs a.coefs b.coefs;
    }

less_size : (A B : ℕ) → suc A ≤ B → (e : Affine) → AtMostE A e → AtMostE B (less_one e)
unfolding less_one
less_size A B h e a =
    record {
      constant = omega (arith, minus_size e.constant (pos 1) A 1 a.constant one_size);
      coefs = each_more A B (omega arith) e.coefs a.coefs;
    }

-- a test is as large as both together, and one more
slack_size : (A B C : ℕ) → suc (B + A) ≤ C → (s t : Bool) (x y : Affine) → AtMostE A x → AtMostE B y → AtMostE C (slack_e s t x y)
slack_size A B C h true true x y a b = less_size (B + A) C h (minus y x) (minus_size_e B A y x b a)
slack_size A B C h true false x y a b = at_most_e_more (B + A) C (omega arith) (minus y x) (minus_size_e B A y x b a)
slack_size A B C h false t x y a b = less_size (B + A) C h (minus y x) (minus_size_e B A y x b a)

pub tested_size : (A B C : ℕ) → suc (B + A) ≤ C → (x y : Upper Affine) → AtMostB A x → AtMostB B y → (f : Bool → Tree)
    → ((b : Bool) → AsksAtMost C (f b)) → AsksAtMost C (tested (tighter_b x y) f)
unfolding tighter_b tested
tested_size A B C h none y a b f k = k false
tested_size A B C h (upper s x) none a b f k = k true
tested_size A B C h (upper s x) (upper t y) a b f k = (slack_size A B C h s t x y a b, k)
